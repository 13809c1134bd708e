-- Handlers cover and take the same at positions and at offsets.
use Rattle.std.proofs.Common.{◌≡◌, ℕ, zero, suc, ◌+◌, ◌<◌, ◌≤◌, Bool, true, false, ◌&&◌, List, []}
use Rattle.std.proofs.Common.{◌∷◌}
use Rattle.std.proofs.Common.{length, Option, Some, None, refl, sym, ap, ◌∙◌, inl, inr, arith}
use Rattle.std.specs.Prelude.{nat_lt, nat_le, ◌==◌, ◌||◌, if◌then◌else◌, IsTrue, slice_get, All}
use Rattle.std.specs.Prelude.{◌⊎◌}
use Rattle.std.specs.List.{AllZip}
use Rattle.std.proofs.lemmas.Bool.{cases_lt, lt-ltb, le-ltb, le-leb, lt-leb, ne_eqb}
use Rattle.std.proofs.lemmas.Bool.Decides.{nat_tests}
use Rattle.std.proofs.lemmas.List.Elements.{All-head, All-tail}
use Rattle.par_pool.specs.Entries.{IsClassAt}
use Rattle.par_class.specs.declared.file.Catch.{Catch}
use Rattle.par_class.specs.declared.file.ClassFile.{ClassFile}
use Rattle.par_values.specs.declared.link.ClassLink.{ClassLink}
use Rattle.par_values.specs.declared.link.Link.TheVariants as link
use Rattle.par_values.specs.Areas.{Name}
use Rattle.par_step_laws.specs.par_link.entry.Builtin.{Builtin}
use Rattle.par_step_laws.specs.par_link.entry.Builtin.TheVariants as builtin
use Rattle.par_step_laws.specs.par_link.entry.Named.{Named}
use Rattle.par_step_laws.specs.par_link.entry.Named.TheVariants as named
use Rattle.par_step_laws.specs.par_link.Builtins as builtins
use Rattle.par_step_laws.specs.par_link.Named.{class_of, class_place, class_named}
use Rattle.par_step_laws.specs.par_link.Linked.{named_at}
use Rattle.par_step_laws.specs.Methods.{class_pool}
use Rattle.par_step_laws.specs.Links.{link_of, class_link}
use Rattle.par_step_laws.specs.State.{Frame}
use Rattle.par_step_laws.specs.Handlers.{named_takes, takes, first_handler}
use Rattle.par_step_laws.specs.Handlers.{covers}
use Rattle.par_match_laws.specs.Files.{frame_at}
use Rattle.par_place.specs.par_code_form.declared.item.Item.{Item}
use Rattle.par_place.specs.par_code_form.declared.labelled.Handler.{Handler}
use Rattle.par_match_laws.specs.Labelled as matching
use Rattle.par_match_laws.specs.Labelled.{spot, target, handled}
use Rattle.par_place.specs.par_code_form.Instructions.{is_instruction}
use Rattle.par_place.specs.par_code_form.PoolNames.{full_name}
use Rattle.par_place.specs.par_code_form.Placed.{offset_of, offset_at, IsCatch}
use Rattle.par_place.specs.par_code_form.Placeable.{FitsItem}
use Rattle.par_place.proofs.Sizes.{upto_le, upto_less}
use Rattle.par_match_laws.specs.Naming.{naming_of, number_of, class_of_name}
use Rattle.par_placed_run_laws.specs.Laid.{IsOfMade}
use Rattle.par_placed_run_laws.proofs.Positions.{spot_offset, target_offset}
use Rattle.par_placed_run_laws.proofs.Named.{class_at}

-- ---- the class that is taken

turned : (m n : ℕ) → (m == n) ≡ (n == m)
turned m n = grind (arith, nat_tests)

module _ (files : List ClassFile) (thrown : ℕ) where
  -- a class of which objects are made is taken by its number
  abbrev TakesMade : Named → Type 0
  TakesMade n =
      (c : ClassLink) → link_of files n ≡ link.Class c → c.is_made ≡ true
      → named_takes files thrown n ≡ (number_of (link_of files n) == thrown)

  builtin_takes_made : (b : Builtin) → TakesMade (named.Builtin b)
  builtin_takes_made builtin.Object c e made = absurd (unmade c e made)
    where
      unmade : (c : ClassLink) → link_of files (named.Builtin builtin.Object) ≡ link.Class c
          → c.is_made ≡ true → ⊥
      unmade c e made = cc (e, made)
  builtin_takes_made builtin.Exception c e made = absurd (cc (e, made))
  builtin_takes_made builtin.ArithmeticException c e made = turned thrown (length files)
  builtin_takes_made builtin.NullPointerException c e made = turned thrown (length files + 1)
  builtin_takes_made builtin.Locks c e made = absurd (cc (e, made))

  own_takes_made : (class : ℕ) (file : Option ClassFile) (c : ClassLink)
      → class_link class file ≡ link.Class c
      → (thrown == class) ≡ (number_of (class_link class file) == thrown)
  own_takes_made class None c e = absurd (cc e)
  own_takes_made class (Some file) c e = turned thrown class

  takes_made : (b : Option Builtin) (own : Option ℕ) → TakesMade (class_of b own)
  takes_made (Some b) own c e made = builtin_takes_made b c e made
  takes_made None None c e made = absurd (cc e)
  takes_made None (Some class) c e made = own_takes_made class (slice_get files class) c e

  pub taken_same : (class : Name) (c : ClassLink) → class_of_name files class ≡ link.Class c
      → c.is_made ≡ true
      → named_takes files thrown (class_named files (full_name class))
      ≡ ((naming_of files).number class == thrown)
  taken_same class c e made =
      takes_made (builtins.builtin (full_name class)) (class_place files (full_name class)) c e made

-- the offset of a position, where there is one
abbrev pub caught_at : List Item → List ℕ → Option ℕ → Option ℕ
caught_at items ns None = None
caught_at items ns (Some place) = Some (offset_at place items ns)

-- ---- the range that is covered

module _ (items : List Item) (ns : List ℕ) (q : ℕ) (x : Item) (stands : slice_get items q ≡ Some x)
    (real : IsTrue (is_instruction x)) (paired : length items ≡ length ns)
    (fit : All FitsItem items) where
  abbrev off : ℕ → ℕ
  off place = offset_at place items ns

  from_same : (s : ℕ) → nat_le (off s) (off q) ≡ nat_le s q
  from_same s = pick (cases_lt q s)
    where
      pick : (q < s) ⊎ (s ≤ q) → nat_le (off s) (off q) ≡ nat_le s q
      pick (inr le) =
          le-leb (off s) (off q) (upto_le s q items ns le) ∙ sym (le-leb s q le)
      pick (inl lt) =
          lt-leb (off s) (off q)
          (upto_less q q s x items ns (omega arith) lt stands real paired fit)
          ∙ sym (lt-leb s q lt)

  to_same : (s : ℕ) → nat_lt (off q) (off s) ≡ nat_lt q s
  to_same s = pick (cases_lt q s)
    where
      pick : (q < s) ⊎ (s ≤ q) → nat_lt (off q) (off s) ≡ nat_lt q s
      pick (inr le) =
          le-ltb (off q) (off s) (upto_le s q items ns le) ∙ sym (le-ltb q s le)
      pick (inl lt) =
          lt-ltb (off q) (off s)
          (upto_less q q s x items ns (omega arith) lt stands real paired fit)
          ∙ sym (lt-ltb q s lt)

  module _ (files : List ClassFile) (c m thrown : ℕ) where
    abbrev frame : Frame
    frame = frame_at c m (off q)

    covers_same : (h : Handler) (k : Catch)
        → IsCatch (class_pool files c) (offset_of items ns) h k
        → covers frame k ≡ matching.covers items h q
    covers_same h k is =
        ap (λ (s : ℕ). nat_le s (off q) && nat_lt (off q) k.end)
        (is.start ∙ spot_offset h.from items ns)
        ∙ ap (λ (s : ℕ). nat_le (off (spot items h.from)) (off q) && nat_lt (off q) s)
        (is.end ∙ spot_offset h.to items ns)
        ∙ ap (λ (b : Bool). b && nat_lt (off q) (off (spot items h.to)))
        (from_same (spot items h.from))
        ∙ ap (λ (b : Bool). nat_le (spot items h.from) q && b) (to_same (spot items h.to))

    named_class : (index : ℕ) (class : Name) → IsClassAt (class_pool files c) index class
        → (index == 0) ≡ false
    named_class zero class h = absurd (cc h.entry)
    named_class (suc index) class h = ne_eqb (suc index) 0 (λ e. omega (arith, e))

    takes_same : (h : Handler) (k : Catch)
        → IsCatch (class_pool files c) (offset_of items ns) h k → IsOfMade files h
        → takes files thrown frame k
        ≡ (matching.covers items h q && (naming_of files).number h.class == thrown)
    takes_same h k is made =
        ap (λ (b : Bool). b && (k.class == 0 || named_takes files thrown
        (named_at files c k.class))) (covers_same h k is)
        ∙ ap (λ (b : Bool). matching.covers items h q && (b || named_takes files thrown
        (named_at files c k.class))) (named_class k.class (full_name h.class) is.class)
        ∙ ap (λ n. matching.covers items h q && named_takes files thrown n)
        (class_at files c k.class (full_name h.class) is.class)
        ∙ ap (λ (b : Bool). matching.covers items h q && b)
        (taken_same files thrown h.class made.0 made.1 made.2)

    pub handled_same : (hs : List Handler) (ks : List Catch)
        → AllZip (IsCatch (class_pool files c) (offset_of items ns)) hs ks
        → All (IsOfMade files) hs
        → first_handler (takes files thrown frame) ks
        ≡ caught_at items ns (handled (naming_of files) items hs q thrown)
    unfolding first_handler
    handled_same [] [] are made = refl
    handled_same [] (k ∷ ks) are made = absurd are
    handled_same (h ∷ hs) [] are made = absurd are
    handled_same (h ∷ hs) (k ∷ ks) are made =
        ap (λ (b : Bool). if b then Some k.handler else first_handler (takes files thrown frame) ks)
        (takes_same h k are.0 (All-head (IsOfMade files) h hs made))
        ∙ ap (λ (o : ℕ). if covered then Some o
        else first_handler (takes files thrown frame) ks)
        (are.0.handler ∙ target_offset h.goes items ns)
        ∙ ap (λ o. if covered then Some (off (target items h.goes)) else o)
        (handled_same hs ks are.1 (All-tail (IsOfMade files) h hs made))
        ∙ pick covered
      where
        covered : Bool
        covered = matching.covers items h q && (naming_of files).number h.class == thrown

        pick : (b : Bool)
            → (if b then Some (off (target items h.goes))
            else caught_at items ns (handled (naming_of files) items hs q thrown))
            ≡ caught_at items ns (if b then Some (target items h.goes)
            else handled (naming_of files) items hs q thrown)
        pick true = refl
        pick false = refl
