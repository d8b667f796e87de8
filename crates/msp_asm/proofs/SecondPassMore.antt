-- One statement more in the second pass, and the end of it.
use Rattle.std.{proofs.Common.{◌≡◌, ◌∙◌, ◌<◌, ℕ, ℤ, ap, sym, refl, List, ◌∷◌, length, reverse, slice_index, take, Option, Some, None, Result, Ok, Err, IfOk, IsTrue, Bool, true, false, cond}, specs.Option.option_or}
use Rattle.part_definitions.specs.Memory.{is_image_place}
use Rattle.text_scan.specs.{declared.text_fault.TextFault.{TextFault, TheVariants.{At, Memory}}, Reader.{Reads, value_as, value_or_fault}}
use Rattle.asm_text.specs.declared.statement.Statement.{Statement}
use Rattle.mem_map.specs.{declared.image.Image.Image, Image.byte_in, ImagePlace.IsImage}
use Rattle.msp_asm.specs.{Value.{Scope, value_in}, Statement.bytes_of, declared.assembly.Layout.Layout, FirstPass.{first_fault, first_pass_fault, scope_after}, SecondPass.{byte_from, byte_placed, scope_among, second_pass_fault, byte_of_image, image_of}, Assembly.{AnswersAt, LayoutStandsFor}}

same_scope : (names other : List ℕ → Option ℤ) (here there : ℕ)
    → names ≡ other
    → here ≡ there
    → ◌≡◌ {A = Scope} (record { names = names; here = here })
    (record { names = other; here = there })
same_scope names other here there same_names places =
    ap (λ (f : List ℕ → Option ℤ). record { names = f; here = here }) same_names
    ∙ ap (λ (n : ℕ). record { names = other; here = n }) places

-- what a statement is read in, by the layout
pub layout-scope : (layout : Layout) (statements : List Statement) (i : ℕ) (scope : Scope)
    → LayoutStandsFor layout statements
    → i < length statements
    → scope ≡ record {
      names = value_in layout.names;
      here = slice_index layout.places.items i;
    }
    → scope ≡ scope_among (reverse statements) (reverse (take i statements))
layout-scope layout statements i scope stands below is =
    is
    ∙ same_scope (value_in layout.names) (scope_after (reverse statements)).names
    (slice_index layout.places.items i) (scope_after (reverse (take i statements))).here
    stands.names (stands.places i below)

-- the byte at a place with one statement more
pub placed_more : (all earlier : List Statement) (s : Statement) (scope : Scope)
    (old new : ℕ → Option ℕ) (place : ℕ)
    → scope ≡ scope_among all earlier
    → old place ≡ byte_placed all earlier place
    → new place ≡ option_or (byte_from scope.here (bytes_of scope s.body) place) (old place)
    → new place ≡ byte_placed all (s ∷ earlier) place
unfolding byte_placed
placed_more all earlier s scope old new place is before after =
    after
    ∙ ap (λ (it : Scope). option_or (byte_from it.here (bytes_of it s.body) place) (old place)) is
    ∙ ap (option_or (byte_from (scope_among all earlier).here
    (bytes_of (scope_among all earlier) s.body) place)) before

-- an image has no byte where it may hold none
none_elsewhere : (image : ℕ → Option ℕ) (place : ℕ) (answer : Option ℕ) → IsImage image
    → image place ≡ answer
    → is_image_place place ≡ false
    → answer ≡ None
none_elsewhere image place None are is elsewhere = refl
none_elsewhere image place (Some byte) are is elsewhere =
    let places : is_image_place place ≡ true = (are place byte is).0 in absurd cc

by_place : (image : ℕ → Option ℕ) (places : ℕ → Option ℕ) (place : ℕ) (is : Bool) → IsImage image
    → is_image_place place ≡ is
    → (IsTrue (is_image_place place) → image place ≡ places place)
    → cond (is_image_place place) (places place) None ≡ image place
by_place image places place true are is same =
    ap (λ b. cond b (places place) None) is ∙ sym (same is)
by_place image places place false are is same =
    ap (λ b. cond b (places place) None) is ∙ sym (none_elsewhere image place (image place) are refl
    is)

-- the image after both passes, or the fault of the second
pub reads_image : (statements : List Statement) (result : Result Image TextFault)
    → first_fault first_pass_fault (reverse statements) ≡ None
    → AnswersAt result
    (first_fault (second_pass_fault (reverse statements)) (reverse statements))
    → IfOk result (λ image. (place : ℕ) → IsTrue (is_image_place place)
    → byte_in image place ≡ byte_placed (reverse statements) (reverse statements) place)
    → Reads (value_as byte_in result) (image_of statements)
reads_image statements (Ok image) first second bytes =
    let all = reverse statements in
    ap (λ fault. value_or_fault (option_or fault (first_fault (second_pass_fault all) all))
    (byte_of_image statements)) first
    ∙ ap (λ fault. value_or_fault fault (byte_of_image statements)) second
    ∙ ap Ok (λ i. λ place. by_place (byte_in image) (byte_placed all all) place
    (is_image_place place) image.placed refl (bytes place) i)
reads_image statements (Err (At fault)) first second bytes =
    let all = reverse statements in
    ap (λ answer. value_or_fault (option_or answer (first_fault (second_pass_fault all) all))
    (byte_of_image statements)) first
    ∙ ap (λ answer. value_or_fault answer (byte_of_image statements)) second
reads_image statements (Err (Memory error)) first second bytes = tt
