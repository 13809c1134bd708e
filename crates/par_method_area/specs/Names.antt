-- The names of classes and their numbers.
use Rattle.std.specs.Prelude.{◌≡◌, ℕ, ◌<◌, ◌^◌, List, length}
use Rattle.std.specs.Borrow.{Bor}
use Rattle.std.specs.List.{position}
use Rattle.std.specs.Str.{bytes_eq}
use Rattle.std.specs.HashMap.{get}
use Rattle.par_index.specs.declared.firsts.Firsts.{Firsts}
use Rattle.par_index.specs.Texts.{same_text, texts}

-- each name has its first place among these, of which there are few
pub record AreNumbered (names : List (Bor (List ℕ))) (firsts : Firsts (Bor (List ℕ))) : Type 0 where
  pub few : length names < 2 ^ 16
  pub places : (name : Bor (List ℕ)) →
      get same_text firsts.places name ≡ position (bytes_eq name.now) (texts names)
