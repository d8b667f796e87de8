-- A listing that is written item by item.
use Rattle.std.proofs.{Common.{◌≡◌, ◌≤◌, ◌<◌, ◌+◌, ℕ, zero, suc, List, [], ◌++◌, add-one, append_assoc, append-nil, Option, Some, None, refl, sym, arith, inl, inr, ◌∙◌}, lemmas.{Bool.cases_lt, Result.err_from_is_err_and}}
use Rattle.outside_edge.{specs.Sink.{Takes, TakesPrefix}, proofs.SinkLemmas.{prefix_after, prefix_of_more, takes_both}}
use Rattle.msp_asm.specs.{declared.item.Item.Item, Item.item_at, Listing.{place_after, item_begun, with_item, items_below, listing_lines, line_at, free_after, listing}}
use Rattle.mem_map.specs.Image.{byte_in}
use Rattle.msp_asm.proofs.listing_writer.write_listing.Goals as goal

listing_lines-with : (earlier : List (ℕ × Item)) (place : ℕ) (answer : Option Item)
    → listing_lines (with_item earlier place answer) ≡ listing_lines earlier ++ line_at place answer
listing_lines-with earlier place None = sym (append-nil (listing_lines earlier))
listing_lines-with earlier place (Some item) = refl

place_after-with : (earlier : List (ℕ × Item)) (place : ℕ) (answer : Option Item)
    → place_after (with_item earlier place answer) ≡ free_after (place_after earlier) place answer
place_after-with earlier place None = refl
place_after-with earlier place (Some item) = refl

-- the item that begins at a place, after those below it
abbrev item_there : (ℕ → Option ℕ) → ℕ → Option Item
item_there bytes place =
    item_begun (place_after (items_below bytes place)) place (item_at bytes place)

-- the lines below the next place
listing_lines-next : (bytes : ℕ → Option ℕ) (place : ℕ)
    → listing_lines (items_below bytes (place + 1))
    ≡ listing_lines (items_below bytes place) ++ line_at place (item_there bytes place)
unfolding items_below
listing_lines-next bytes place =
    rw add-one (listing_lines-with (items_below bytes place) place (item_there bytes place))

place_after-next : (bytes : ℕ → Option ℕ) (place : ℕ)
    → place_after (items_below bytes (place + 1))
    ≡ free_after (place_after (items_below bytes place)) place (item_there bytes place)
unfolding items_below
place_after-next bytes place =
    rw add-one (place_after-with (items_below bytes place) place (item_there bytes place))

-- the lines below a place begin those below a later one
listing_lines-prefix : (bytes : ℕ → Option ℕ) (first last : ℕ) → first ≤ last
    → (rest : List ℕ)
    × (listing_lines (items_below bytes last) ≡ listing_lines (items_below bytes first) ++ rest)
listing_lines-prefix bytes first zero order =
    let none : first ≡ 0 = omega arith in
    ([], rw none (sym (append-nil (listing_lines (items_below bytes 0)))))
listing_lines-prefix bytes first (suc last) order =
    elim (cases_lt last first) [
      | inl same ↦
          let is : first ≡ suc last = omega arith in
          ([], rw is (sym (append-nil (listing_lines (items_below bytes (suc last))))))
      | inr below ↦
          let before = listing_lines-prefix bytes first last below in (
            before.0 ++ line_at last (item_there bytes last),
            rw (← add-one last, listing_lines-next bytes last, before.1)
                (append_assoc (listing_lines (items_below bytes first)) before.0
                (line_at last (item_there bytes last))),
          )
    ]

-- a prefix of a line is a prefix of the listing, where the lines before it were taken
prefix_in_listing : {S : Type 0} (stands : S → List ℕ → Type 0) (bytes : ℕ → Option ℕ)
    (old mid new : S) (place : ℕ) → place < 65536
    → Takes stands old mid (listing_lines (items_below bytes place))
    → TakesPrefix stands mid new (line_at place (item_there bytes place))
    → TakesPrefix stands old new (listing bytes)
prefix_in_listing stands bytes old mid new place within before prefix =
    let rest = listing_lines-prefix bytes (place + 1) 65536 (omega arith) in
    let lines = listing_lines (items_below bytes place) in
    let line = line_at place (item_there bytes place) in
    rw (rest.1, listing_lines-next)
    (prefix_of_more stands old new (lines ++ line) rest.0
    (prefix_after stands old mid new lines line before prefix))

pub loop-place-init : goal.loop-place-init
unfolding items_below
loop-place-init g c = record {
  free = refl;
  taken = λ earlier stands. rw append-nil stands;
  quiet = refl;
}

pub returns-in_err-free-clause-puts : goal.returns-in_err-free-clause-puts
returns-in_err-free-clause-puts g c =
    let at = c.loop-place in
    let p = err_from_is_err_and c.from_residual.result c.from_residual.ensures.1 in
    rw p.1 (record {
      all = tt;
      prefix = prefix_in_listing g.W.Sink.stands (byte_in c.args.image.now) c.args.sink.now at.sink
          c.write_item.new.sink at.place c.loop-place-test.true at.invariant.taken
          (rw at.invariant.free at c.in_err-free.ensures.puts.prefix);
    })

pub loop-place-preserved : goal.loop-place-preserved
loop-place-preserved g c =
    let at = c.loop-place in
    let bytes = byte_in c.args.image.now in
    record {
      free = rw (place_after-next bytes at.place)
          (rw at.invariant.free at c.in_ok-free.ensures.free);
      taken = rw (listing_lines-next bytes at.place)
          (takes_both g.W.Sink.stands c.args.sink.now at.sink c.write_item.new.sink
          (listing_lines (items_below bytes at.place))
          (line_at at.place (item_there bytes at.place))
          at.invariant.taken
          (rw at.invariant.free at c.in_ok-free.ensures.puts.all));
      quiet = c.in_ok-free.ensures.counts.quiet ∙ at.invariant.quiet;
    }

pub returns-clause-puts : goal.returns-clause-puts
returns-clause-puts g c =
    let at = c.loop-place in
    let all : at.place ≡ 65536 = omega (arith, c.loop-place-test.false, at.auto.place-end) in
    record { all = rw all at at.invariant.taken; prefix = tt }
