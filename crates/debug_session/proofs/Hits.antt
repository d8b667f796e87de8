-- First and last hits of lists that are put together.
use Rattle.std.{proofs.Common.{◌≡◌, refl, List, [], ◌∷◌, ◌++◌, Option, Some}, specs.Option.option_or}
use Rattle.debug_session.specs.{Watched.{first_hit, last_hit}, declared.watch.Hit.Hit}

pub first_of_both : (xs ys : List Hit)
    → first_hit (xs ++ ys) ≡ option_or (first_hit xs) (first_hit ys)
first_of_both [] ys = refl
first_of_both (hit ∷ xs) ys = refl

pub last_of_both : (before : Option Hit) (xs ys : List Hit)
    → last_hit before (xs ++ ys) ≡ last_hit (last_hit before xs) ys
last_of_both before [] ys = refl
last_of_both before (hit ∷ xs) ys = last_of_both (Some hit) xs ys
