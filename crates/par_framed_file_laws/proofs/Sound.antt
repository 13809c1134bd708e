-- The code of each method of a well-typed program, without its policies: its frames are few, stand
-- where they are needed, and name classes.
use Rattle.std.proofs.Common.{◌≡◌, ℕ, zero, suc, ◌<◌, ◌≤◌, false, List, [], ◌∷◌}
use Rattle.std.proofs.Common.{length, Option, Some, None, refl, sym, ap, subst, ◌∙◌, arith}
use Rattle.std.specs.Prelude.{slice_get, sum_by, All}
use Rattle.std.specs.List.{AllByRecursion, flat_map}
use Rattle.std.proofs.lemmas.List.Elements.{All-nil}
use Rattle.par_base.specs.Names.{IsName}
use Rattle.par_typed.specs.declared.table.ClassInfo.{ClassInfo}
use Rattle.par_typed.specs.declared.table.MethodInfo.{MethodInfo}
use Rattle.par_typed.specs.declared.table.Table.{Table}
use Rattle.par_typed.specs.Plain.{TSta, Body}
use Rattle.par_typed.specs.Members.{method_at}
use Rattle.par_program_laws.specs.Proper.{IsProper}
use Rattle.par_typed_laws.specs.Control.{StaReached, IsControlled}
use Rattle.par_typed_laws.specs.WellTyped.{IsWellTyped}
use Rattle.par_run_laws.specs.Names.{body_of}
use Rattle.par_erase.specs.Asked.{asked_in}
use Rattle.par_erase.specs.Erased.{erased_table, erased_bodies, erased_sta}
use Rattle.par_code_form.specs.declared.labelled.Labelled.{Labelled}
use Rattle.par_code_form.specs.Code.{Words}
use Rattle.par_code_form.specs.Method.{labelled}
use Rattle.par_code_form.specs.Named.{class_word, words_of}
use Rattle.par_code_form.specs.Placeable.{FitsItem, MOST_BYTES, most_bytes}
use Rattle.par_code_form.specs.PlaceableFrames.{FitsFrame, AreFramesPlaceable}
use Rattle.par_file_run_laws.specs.par_source_code_laws.PlaceableLaws.{IsReadyBody}
use Rattle.par_file_run_laws.proofs.par_source_code_laws.PlaceableBodies.{all_ready}
use Rattle.par_file_run_laws.proofs.par_source_code_laws.Words.{words_are_texts}
use Rattle.par_file_run_laws.proofs.par_source_code_laws.Bodies.{IsFound, found, bodies_are_erased}
use Rattle.par_file_run_laws.specs.par_compile_laws.Constants.{frame_classes}
use Rattle.par_file_run_laws.specs.par_compile_laws.Members.{initializer_of}
use Rattle.par_file_run_laws.specs.par_link_laws.Linkable.{IsLinkable, ClassLinks, IsClassWord}
use Rattle.par_file_run_laws.proofs.Lists.{each-item}
use Rattle.par_file_run_laws.proofs.Known.{word-is}
use Rattle.par_file_run_laws.proofs.Simple.{each, all_named}
use Rattle.par_file_run_laws.proofs.Fitting.{initializer_fits}
use Rattle.par_framed_file_laws.specs.Met.{lands, AreMet, HasNeededFrames}
use Rattle.par_framed_file_laws.proofs.Labels.{bodies_have_frames}
use Rattle.par_framed_file_laws.proofs.Reached.{sta_reached}

-- code whose frames stand where they are needed, and name classes
pub record IsSound (code : Labelled) : Type 0 where
  pub items : All FitsItem code.items
  pub short : sum_by most_bytes code.items ≤ MOST_BYTES
  pub framed : AreFramesPlaceable code
  pub needed : HasNeededFrames code
  pub named : AllByRecursion IsName (flat_map frame_classes code.frames)

-- ---- initializers

pub initializer_sound : (class : ClassInfo) → IsSound (initializer_of class)
unfolding lands AreMet
initializer_sound class = record {
  items = (initializer_fits class).items;
  short = omega arith;
  framed = record { fit = All-nil (FitsFrame (initializer_of class)); apart = λ l. omega arith };
  needed = record { items = (tt, (tt, (refl, tt))); handlers = tt };
  named = tt;
}

-- ---- methods

all_both : {X : Type 0} (P Q : X → Type 0) (xs : List X) → AllByRecursion P xs
    → AllByRecursion Q xs → AllByRecursion (λ x. P x × Q x) xs
all_both P Q [] p q = tt
all_both P Q (x ∷ xs) p q = ((p.0, q.0), all_both P Q xs p.1 q.1)

past : {A : Type 0} (xs : List A) (n : ℕ) → n < length xs → slice_get xs n ≡ None → ⊥
past [] n less none = absurd (omega (arith, less))
past (x ∷ xs) zero less none = absurd (cc none)
past (x ∷ xs) (suc n) less none = past xs n (omega (arith, less)) none

module _ (table : Table) (bodies : List Body) (linkable : IsLinkable table bodies) where
  -- the name of a class that code names
  word_named : (name : List ℕ) → IsClassWord table name → IsName name
  word_named name word =
      subst IsName (sym word.is) (in_case (slice_get table.classes word.number) refl)
    where
      in_case : (o : Option ClassInfo) → slice_get table.classes word.number ≡ o
          → IsName (class_word table word.number)
      in_case None none = absurd (past table.classes word.number word.there none)
      in_case (Some class) there =
          subst IsName (sym (word-is table word.number class there))
          (each-item (ClassLinks table) table.classes linkable.classes word.number class
          there).named

module _ (t : Table) (all : List Body) (typed : IsWellTyped t all)
    (linkable : IsLinkable (erased_table t) (erased_bodies t all)) where
  abbrev plain : Table
  plain = erased_table t

  abbrev plain_bodies : List Body
  plain_bodies = erased_bodies t all

  abbrev w : Words
  w = words_of plain

  -- what is known of a body of the program, as that of a method
  abbrev pub Known : MethodInfo → Body → Type 0
  Known m b = IsReadyBody t w (asked_in all) m b × (IsControlled t b × IsProper t b)

  pub body_found : (c i : ℕ) (m : MethodInfo) (body : TSta)
      → body_of plain_bodies c i ≡ Some body
      → IsFound (Known m) (erased_sta t (asked_in all)) c i body
  body_found c i m body has =
      let texts = words_are_texts t (all_named plain plain_bodies linkable) typed.few_params in
      found t (asked_in all) (Known m) c i body all
      (all_both (IsReadyBody t w (asked_in all) m) (λ b. IsControlled t b × IsProper t b) all
      (all_ready t all typed w texts (asked_in all) m)
      (all_both (IsControlled t) (IsProper t) all typed.controlled typed.proper))
      (ap (λ (bs : List Body). body_of bs c i) (sym (bodies_are_erased t all typed.one_each))
      ∙ has)

  pub method_sound : (c i : ℕ) (m : MethodInfo) (body : TSta) → method_at plain c i ≡ Some m
      → body_of plain_bodies c i ≡ Some body → IsSound (labelled w m body)
  method_sound c i m body there has =
      let of = body_found c i m body has in
      let ready = of.known.0 in
      let reached : StaReached false body =
      subst (StaReached false) of.is
      (sta_reached t (asked_in all) false (of.body).body (of.known.1.0).1.reached) in
      record {
        items = subst (λ (s : TSta). All FitsItem (labelled w m s).items) of.is
            ready.placeable.items;
        short = subst (λ (s : TSta). sum_by most_bytes (labelled w m s).items ≤ MOST_BYTES) of.is
            ready.placeable.short;
        framed = subst (λ (s : TSta). AreFramesPlaceable (labelled w m s)) of.is ready.framed;
        needed = bodies_have_frames w m body reached;
        named =
            each (IsClassWord plain) IsName (word_named plain plain_bodies linkable)
            (flat_map frame_classes (labelled w m body).frames)
            (linkable.code c i m body there has).frames;
      }
