-- What is used of placed code: where its instructions stand, and that each has a byte.
use Rattle.std.proofs.Common.{◌≡◌, ℕ, ◌≤◌, true, List, [], ◌∷◌, length, sym, subst, arith}
use Rattle.std.specs.Prelude.{IsTrue, All}
use Rattle.std.specs.List.{AllZip}
use Rattle.std.proofs.lemmas.List.Elements.{All-head, All-tail}
use Rattle.par_pool.specs.declared.constant.Constant.{Constant}
use Rattle.par_class.specs.declared.file.CodeAttr.{CodeAttr}
use Rattle.par_single.specs.Walk.{starts_at}
use Rattle.par_code_form.specs.declared.item.Item.{Item}
use Rattle.par_code_form.specs.declared.labelled.Labelled.{Labelled}
use Rattle.par_code_form.specs.Instructions.{is_instruction}
use Rattle.par_code_form.specs.PoolNames.{Names}
use Rattle.par_code_form.specs.Placed.{size, offset_of, offset_at, IsPlaced}
use Rattle.par_code_form.specs.Placeable.{FitsItem, IsPlaceable}
use Rattle.par_place.proofs.Sizes.{size_some}
use Rattle.par_place.proofs.Standing.{placed_stand}
use Rattle.par_placed_run_laws.proofs.Walk.{starts_there}
use Rattle.par_placed_fit_laws.specs.Laws.{PlacedCodeFits}
use Rattle.par_placed_fit_laws.proofs.Whole.{Bytes, zip_length, fitting}

pub sizes : (xs : List Item) (ns : List ℕ) → length xs ≡ length ns → All FitsItem xs
    → AllZip (λ x n. IsTrue (is_instruction x) → 1 ≤ size x n) xs ns
sizes [] [] l h = tt
sizes [] (n ∷ ns) l h = absurd (omega (arith, l))
sizes (x ∷ xs) [] l h = absurd (omega (arith, l))
sizes (x ∷ xs) (n ∷ ns) l h =
    let rest = sizes xs ns (omega (arith, l)) (All-tail FitsItem x xs h) in
    (size_some x n (All-head FitsItem x xs h), rest)

module _ (pool : List Constant) (code : Labelled) (attr : CodeAttr)
    (placed : IsPlaced pool code (record attr { attributes = [] })) (ok : IsPlaceable code) where
  long : length code.items ≡ length placed.indices
  long = zip_length (Names pool) code.items placed.indices placed.named

  placed_bytes : Bytes code placed.indices attr.code
  placed_bytes = record {
    stands = λ p x n i e g is.
        placed_stand pool code (record attr { attributes = [] }) placed p i
        (record { item = x; index = n; stands = e; named = g; is = is });
    starts = λ p x e is.
        subst (λ (bytes : List ℕ).
        starts_at bytes (offset_at p code.items placed.indices) ≡ true) (sym placed.bytes)
        (starts_there (offset_of code.items placed.indices) 0 p code.items placed.indices x e is
        long ok.items placed.writable);
    some = sizes code.items placed.indices long ok.items;
  }

pub placed_code_fits : PlacedCodeFits
placed_code_fits exc act at code first fits pool attr placed ok real handler_kind means =
    fitting exc act at code first fits pool attr placed ok real handler_kind means
    (placed_bytes pool code attr placed ok)
