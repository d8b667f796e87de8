-- The lines of a listing.
use Rattle.std.specs.Prelude.{◌≡◌, ◌≤◌, ◌+◌, ◌++◌, ℕ, zero, suc, List, [], ◌∷◌, take, codes, Option, Some, None, nat_le, if◌then◌else◌}
use Rattle.printed_lines.specs.Line.{word_digits}
use Rattle.msp_asm.specs.{declared.{item.Item.Item, listing.Listing.Listing}, Item.{item_at, item_size}, ItemText.item_text}

-- the address, and the item
abbrev pub line_text : ℕ → Item → List ℕ
line_text place item = word_digits place ++ codes ": " ++ item_text place item ++ codes "\n"

-- the text is the first bytes of an array
abbrev pub text_of : Listing → List ℕ
text_of listing = take listing.len listing.text

-- the line of an item at a place, and how many bytes the item is of
pub record IsLineOf (place : ℕ) (item : Item) (listing : Listing) : Type 0 where
  pub text : text_of listing ≡ line_text place item
  pub size : listing.size ≡ item_size item
  pub fits : listing.len ≤ 40

-- the line of the item where there is one, and no line where there is none
abbrev pub IsLineAt : ℕ → Option Item → Option Listing → Type 0
IsLineAt place None None = Unit {0}
IsLineAt place (Some item) (Some listing) = IsLineOf place item listing
IsLineAt place None (Some listing) = ⊥
IsLineAt place (Some item) None = ⊥

-- An image as a list of items with their places; the last item stands first.

-- the first place after these items
abbrev pub place_after : List (ℕ × Item) → ℕ
place_after [] = 0
place_after ((place, item) ∷ earlier) = place + item_size item

-- the item that begins at a place: the one there, unless its first byte is of an item before
abbrev pub item_begun : ℕ → ℕ → Option Item → Option Item
item_begun free place None = None
item_begun free place (Some item) = if nat_le free place then Some item else None

abbrev pub with_item : List (ℕ × Item) → ℕ → Option Item → List (ℕ × Item)
with_item earlier place None = earlier
with_item earlier place (Some item) = (place, item) ∷ earlier

-- the items that begin below a place
unfoldable pub items_below : (ℕ → Option ℕ) → ℕ → List (ℕ × Item)
items_below bytes zero = []
items_below bytes (suc place) =
    let earlier : List (ℕ × Item) = items_below bytes place in
    with_item earlier place (item_begun (place_after earlier) place (item_at bytes place))

-- their lines upwards
abbrev pub listing_lines : List (ℕ × Item) → List ℕ
listing_lines [] = []
listing_lines ((place, item) ∷ earlier) = listing_lines earlier ++ line_text place item

-- the listing of an image
abbrev pub listing : (ℕ → Option ℕ) → List ℕ
listing bytes = listing_lines (items_below bytes 65536)

-- what one place adds to the listing, and where the next item may begin
abbrev pub line_at : ℕ → Option Item → List ℕ
line_at place None = []
line_at place (Some item) = line_text place item

abbrev pub free_after : ℕ → ℕ → Option Item → ℕ
free_after free place None = free
free_after free place (Some item) = place + item_size item
