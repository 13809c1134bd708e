-- What is known of the places of names.
use Rattle.std.specs.Prelude.{◌≡◌, ℕ, List}
use Rattle.std.specs.Borrow.{Bor}
use Rattle.std.specs.List.{position}
use Rattle.std.specs.Str.{bytes_eq}
use Rattle.std.specs.HashMap.{get}
use Rattle.par_index.specs.declared.firsts.Firsts.{Firsts}
use Rattle.par_index.specs.Texts.{texts, same_text}

-- each name has its first place among these
pub record ArePlaced (names : List (Bor (List ℕ))) (firsts : Firsts (Bor (List ℕ))) : Type 0 where
  pub places : (name : Bor (List ℕ)) → get same_text firsts.places name
      ≡ position (bytes_eq name.now) (texts names)
