-- Class files are their labelled code at other places, and so run as it does.
use Rattle.std.proofs.Common.{◌≡◌, ℕ, ◌-◌, true, List, [], ◌∷◌, length}
use Rattle.std.proofs.Common.{drop, Option, Some, None, refl, sym, ap, ◌∙◌, arith}
use Rattle.std.specs.Prelude.{IsTrue, slice_get, replicate}
use Rattle.std.proofs.Math.Path.{fun_ext}
use Rattle.std.proofs.lemmas.Slice.Zip.{AllZip-long}
use Rattle.par_class.specs.declared.file.ClassFile.{ClassFile}
use Rattle.par_values.specs.declared.value.MVal.{MVal}
use Rattle.par_values.specs.declared.inputs.Inputs.{Inputs}
use Rattle.par_step_laws.specs.par_single.Walk.{starts_at}
use Rattle.par_step_laws.specs.Methods.{class_pool, method_code}
use Rattle.par_step_laws.specs.State.{State, entered, start, main_place}
use Rattle.par_step_laws.specs.State.{frame_of}
use Rattle.par_match_laws.specs.Engine.{Found, Program, run}
use Rattle.par_match_laws.specs.Files.{of_files}
use Rattle.par_match_laws.proofs.Bridge.{run-same}
use Rattle.par_place.specs.par_code_form.declared.item.Item.{Item}
use Rattle.par_place.specs.par_code_form.declared.item.Item.TheVariants.{Label, Op, Const, Jump}
use Rattle.par_place.specs.par_code_form.declared.item.Item.TheVariants.{Member}
use Rattle.par_place.specs.par_code_form.declared.item.Item.TheVariants.{ClassOp, LockOp}
use Rattle.par_place.specs.par_code_form.declared.labelled.Labelled.{Labelled}
use Rattle.par_match_laws.specs.Labelled.{skip, found, is_there, handled}
use Rattle.par_place.specs.par_code_form.Instructions.{is_instruction}
use Rattle.par_place.specs.par_code_form.PoolNames.{Names}
use Rattle.par_place.specs.par_code_form.Placed.{offset_of, offset_at}
use Rattle.par_match_laws.specs.Naming.{naming_of}
use Rattle.par_placed_run_laws.specs.Relocated.{IsPlaced, there, moved_state, moved_to}
use Rattle.par_placed_run_laws.proofs.Placed as relocated
use Rattle.par_placed_run_laws.specs.Laid.{IsLaid, PlacedCodeRuns, program, begun}
use Rattle.par_placed_run_laws.proofs.Positions as positions
use Rattle.par_placed_run_laws.proofs.Positions.{skip_free}
use Rattle.par_placed_run_laws.proofs.Walk.{starts_there}
use Rattle.par_placed_run_laws.proofs.Found.{places, found_there}
use Rattle.par_placed_run_laws.proofs.Caught.{handled_same, caught_at}

-- an instruction that is left at a position
record IsAt (items : List Item) (q : ℕ) : Type 0 where
  pub item : Item
  pub stands : slice_get items q ≡ Some item
  pub real : IsTrue (is_instruction item)

at : (items : List Item) (q : ℕ) (x : Item) (rest : List Item) → IsTrue (is_instruction x)
    → drop q items ≡ x ∷ rest → IsAt items q
at items q x rest real left =
    record { item = x; stands = positions.there items q x rest left; real = real }

there_is : (items : List Item) (q : ℕ) (left : List Item) → drop q items ≡ left
    → is_there left ≡ true → IsAt items q
there_is items q [] e h = absurd (cc h)
there_is items q (Label l ∷ rest) e h = absurd (cc h)
there_is items q (Op i ∷ rest) e h = at items q (Op i) rest refl e
there_is items q (Const v ∷ rest) e h = at items q (Const v) rest refl e
there_is items q (Jump o l ∷ rest) e h = at items q (Jump o l) rest refl e
there_is items q (Member o c m d ∷ rest) e h = at items q (Member o c m d) rest refl e
there_is items q (ClassOp o c ∷ rest) e h = at items q (ClassOp o c) rest refl e
there_is items q (LockOp o l ∷ rest) e h = at items q (LockOp o l) rest refl e

-- so many locals, none of which is set: by arguments, of which there are none, and at once
abbrev locals : ℕ → List (Option MVal)
locals many = replicate (many - 0) None

abbrev unset : ℕ → List (Option MVal)
unset many = replicate many None

none_less : (many : ℕ) → locals many ≡ unset many
none_less many = let same : many - 0 ≡ many = omega arith in ap unset same

module _ (files : List ClassFile) (codes : ℕ → ℕ → Labelled)
    (laid : (c m : ℕ) → IsLaid files c m (codes c m)) where
  abbrev p : Program
  p = program files codes

  module _ (c m : ℕ) where
    abbrev items : List Item
    items = (codes c m).items

    abbrev ns : List ℕ
    ns = (laid c m).placed.indices

    paired : length items ≡ length ns
    paired = sym (AllZip-long (Names (class_pool files c)) items ns (laid c m).placed.named)

    found_is : (q : ℕ) (left : List Item) (x : Found) → drop q items ≡ left
        → found (naming_of files) items q left ≡ Some x → is_there left ≡ true
    found_is q [] x e f = absurd (cc f)
    found_is q (Label l ∷ rest) x e f = absurd (cc f)
    found_is q (Op i ∷ rest) x e f = refl
    found_is q (Const v ∷ rest) x e f = refl
    found_is q (Jump o l ∷ rest) x e f = refl
    found_is q (Member o k n d ∷ rest) x e f = refl
    found_is q (ClassOp o k ∷ rest) x e f = refl
    found_is q (LockOp o l ∷ rest) x e f = refl

    stands_there : (q : ℕ) → is_there (drop q items) ≡ true
        → starts_at (method_code files c m).code (offset_at q items ns) ≡ true
    stands_there q h =
        let i = there_is items q (drop q items) refl h in
        ap (λ (code : List ℕ). starts_at code (offset_at q items ns)) (laid c m).placed.bytes
        ∙ starts_there (offset_of items ns) 0 q items ns i.item i.stands i.real paired
        (laid c m).items (laid c m).placed.writable

    handled_there : (t q : ℕ) (x : Found) → p.found c m q ≡ Some x
        → (of_files files).handler t c m (offset_at q items ns)
        ≡ moved_to p (places files codes laid) c m (p.handler t c m q)
    handled_there t q x f =
        let i = there_is items q (drop q items) refl
        (found_is q (drop q items) x refl f) in
        handled_same items ns q i.item i.stands i.real paired (laid c m).items files c m t
        (codes c m).handlers (method_code files c m).catches (laid c m).placed.catches
        (laid c m).handlers
        ∙ same (handled (naming_of files) items (codes c m).handlers q t)
      where
        same : (o : Option ℕ)
            → caught_at items ns o ≡ moved_to p (places files codes laid) c m o
        same None = refl
        same (Some k) = refl

  pub placed : IsPlaced p (places files codes laid)
  placed = record {
    found_there = λ c m q x f.
        found_there files codes laid c m q (drop q (codes c m).items) x refl f;
    stands_same = λ c m q h. stands_there c m q h;
    handled = λ t c m q x f. handled_there c m t q x f;
  }

  -- ---- the files are this program at these places

  -- a program with other beginnings, room and results
  abbrev with : (ℕ → ℕ → ℕ) → (ℕ → ℕ → ℕ) → Program
  with entry room = record (there p (places files codes laid)) { entry = entry; room = room }

  entry_there : (c m : ℕ)
      → offset_at (skip (codes c m).items 0) (codes c m).items (laid c m).placed.indices ≡ 0
  entry_there c m = skip_free (codes c m).items 0 (codes c m).items (laid c m).placed.indices refl

  pub there_is_files : there p (places files codes laid) ≡ of_files files
  there_is_files =
      ap (λ (entry : ℕ → ℕ → ℕ). with entry p.room)
      (fun_ext (λ c. fun_ext (λ m. entry_there c m)))
      ∙ ap (λ (room : ℕ → ℕ → ℕ). with (λ c m. 0) room)
      (fun_ext (λ c. fun_ext (λ m. sym (laid c m).placed.max_stack)))

  -- ---- the runs

  -- a frame before the first instruction of `main`
  begun_there : (class method : ℕ) (inputs : Inputs)
      → main_place (slice_get files class) ≡ Some method
      → moved_state p (places files codes laid) (begun files codes class method inputs)
      ≡ start files class inputs
  begun_there class method inputs main =
      ap (λ (entry : ℕ). record (start files class inputs) {
        frames = record (entered class method (locals (codes class method).max_locals)) {
          at = entry;
        } ∷ [];
      }) (entry_there class method)
      ∙ ap (λ (many : ℕ). record (start files class inputs) {
        frames = entered class method (locals many) ∷ [];
      }) (sym (laid class method).placed.max_locals)
      ∙ ap (λ (ls : List (Option MVal)). record (start files class inputs) {
        frames = entered class method ls ∷ [];
      }) (none_less (method_code files class method).max_locals)
      ∙ ap (λ (o : Option ℕ). record (start files class inputs) { frames = frame_of files class o })
      (sym main)

pub placed_runs : PlacedCodeRuns
placed_runs files codes laid class method main inputs m fine =
    run-same files m (start files class inputs)
    ∙ ap (λ (p : Program). run p m (start files class inputs))
    (sym (there_is_files files codes laid))
    ∙ ap (λ (s : State). run (there (program files codes) (places files codes laid)) m s)
    (sym (begun_there files codes laid class method inputs main))
    ∙ relocated.same_runs (program files codes) (places files codes laid)
    (placed files codes laid) m (begun files codes class method inputs) tt fine
