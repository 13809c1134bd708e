-- The status of a call that is to infer policies is the one that the source asks for.
use Rattle.std.proofs.Common.{◌≡◌, ℕ, List, [], Option, refl, sym, subst, inl, inr}
use Rattle.std.specs.Prelude.{◌⊎◌}
use Rattle.par_io.specs.Causes.{FolderCounts, Files}
use Rattle.par_lexer.specs.declared.cut.TheConstants.{LONGEST_SOURCE}
use Rattle.par_tree.specs.Plain.{Source}
use Rattle.par_typed.specs.declared.table.Table.{Table}
use Rattle.par_typed.specs.declared.program.Typed.{Typed}
use Rattle.par_refusals.specs.declared.refusal.Refusal.{Refusal}
use Rattle.par_typed.specs.Plain.{Body}
use Rattle.par_typed.specs.Shown.{bodies}
use Rattle.par_resolved.specs.Resolved.{table_of}
use Rattle.par_observer.specs.Passes.{typing_faults}
use Rattle.par_observer.specs.Trees.{bodies_of, BreaksTyping}
use Rattle.par_observer.specs.Judgements.{IsTreeOf, IsTypedAs, BreaksAs}
use Rattle.par_observer.proofs.Clashes.{one_tree, typed_or_broken, typed_keeps}
use Rattle.par_infer.specs.Filling.{Filling, IsAccepted, join_filling}
use Rattle.par_reached.specs.Reached.{set_at}
use Rattle.par_filling_lines.specs.par_told.Told.{told}
use Rattle.par_tool.specs.declared.answer.Answer.{Answer}
use Rattle.par_tool.specs.declared.answer.Answer.TheVariants.{Refused, Absent, ReadFault, TooLong}
use Rattle.par_tool.specs.Texts.{status}
use Rattle.par_tool.specs.Outside.{Text, IsThere}
use Rattle.par_tool.specs.Inferences.{IsFilledAs, IsUnfilledBy, is_untyped, is_unfilled, IsUnfilled}
use Rattle.par_tool.specs.Inferences.{IsFillingOf, Unfilled}
use Rattle.par_tool.specs.Exactly.{IsSaidBy, TellsSource, Infers}
use Rattle.par_tool.proofs.ExactSources.{IsAnyhow, Found, near_there, there_found, missing_near}
use Rattle.par_tool.proofs.ExactSources.{overlong_near}
use Rattle.par_tool.proofs.Statuses.{IsNear, same, near_status, same_status, read_there}
use Rattle.par_tool.proofs.Statuses.{missing_read, overlong_read}

-- which fillings are accepted is read off the tree
module _ (source : Text) (typed : Typed) (own : IsTypedAs source typed) (tree : Source)
    (is_tree : IsTreeOf source tree) where
  same_tree : own.tree ≡ tree
  same_tree = one_tree source own.tree tree own.is_tree is_tree

  to_typed : (φ : Filling) → IsAccepted (table_of tree) (bodies_of tree) φ
      → IsAccepted typed.table (bodies typed.bodies) φ
  to_typed φ a =
      let mine : IsAccepted (table_of own.tree) (bodies_of own.tree) φ =
      subst (λ (t : Source). IsAccepted (table_of t) (bodies_of t) φ) (sym same_tree) a in
      subst (λ (t : Table). IsAccepted t (bodies typed.bodies) φ) (sym own.keeps.typed_is.table_is)
      (subst (λ (bs : List Body). IsAccepted (table_of own.tree) bs φ)
      (sym own.keeps.typed_is.bodies_are) mine)

  of_typed : (φ : Filling) → IsAccepted typed.table (bodies typed.bodies) φ
      → IsAccepted (table_of tree) (bodies_of tree) φ
  of_typed φ a =
      let mine : IsAccepted (table_of own.tree) (bodies_of own.tree) φ =
      subst (λ (bs : List Body). IsAccepted (table_of own.tree) bs φ)
      own.keeps.typed_is.bodies_are
      (subst (λ (t : Table). IsAccepted t (bodies typed.bodies) φ) own.keeps.typed_is.table_is a) in
      subst (λ (t : Source). IsAccepted (table_of t) (bodies_of t) φ) same_tree mine

module _ (source : Text) where
  -- where some filling is accepted, the source is not refused
  never_filled : (f : Refusal) → IsUnfilledBy source f → (tree : Source) (φ : Filling)
      → IsTreeOf source tree → typing_faults tree ≡ []
      → IsAccepted (table_of tree) (bodies_of tree) φ → ⊥
  never_filled f (is_untyped broken) tree φ is_tree none a =
      typed_or_broken source tree f is_tree none broken
  never_filled f (is_unfilled typed own broken) tree φ is_tree none a =
      broken.first.none φ (to_typed source typed own tree is_tree φ a)

  -- and what is told is some
  fills : (lines : List Text) → IsFilledAs source lines → (tree : Source) → IsTreeOf source tree
      → ((φ : Filling) → IsAccepted (table_of tree) (bodies_of tree) φ → ⊥) → ⊥
  fills lines h tree is_tree never =
      let φ = join_filling h.typed.table (λ i. told h.typed.table.policies (set_at h.sets i)) in
      never φ (of_typed source h.typed h.is_typed tree is_tree φ h.least.accepted)

  typed_so : (lines : List Text) → IsFilledAs source lines → (f : Refusal)
      → BreaksAs BreaksTyping source f → ⊥
  typed_so lines h f broken =
      typed_or_broken source h.is_typed.tree f h.is_typed.is_tree
      (typed_keeps h.is_typed.tree h.typed h.is_typed.keeps) broken

module _ (files : Option Files) (before after : FolderCounts) (file : Text) where
  unfilled_found : (a : Answer) → Unfilled files before after file a
      → Found IsUnfilled files before after file a
  unfilled_found (Refused rule line column limit count) h = inl h
  unfilled_found Absent h = inr h
  unfilled_found ReadFault h = inr h
  unfilled_found TooLong h = inr h
  unfilled_found _ h = absurd h

  fails : (source : Text) (a : Answer) → IsUnfilled source a → (tree : Source) (φ : Filling)
      → IsTreeOf source tree → typing_faults tree ≡ []
      → IsAccepted (table_of tree) (bodies_of tree) φ → IsNear 0 a
  fails source (Refused rule line column limit count) v tree φ is_tree none a =
      absurd (never_filled source v.refusal v.breaks tree φ is_tree none a)
  fails source _ v tree φ is_tree none a = absurd v

  refuses : (source : Text) (a : Answer) → IsUnfilled source a → IsNear 1 a
  refuses source (Refused rule line column limit count) v = same refl
  refuses source _ v = absurd v

  infers : (result : ℕ) (a : Answer) → IsSaidBy result (status a) → (source : Text)
      → IsUnfilled source a ⊎ IsAnyhow a → Infers source result
  infers result a said source v =
      let near : IsNear 1 a =
      near_there IsUnfilled files before after file 1 source a (refuses source a) v in
      record {
        filled = λ tree φ is_tree none accepted. near_status 0 result a
            (near_there IsUnfilled files before after file 0 source a
            (λ own. fails source a own tree φ is_tree none accepted) v) said;
        unfilled = λ tree is_tree none never. near_status 1 result a near said;
        untyped = λ f broken. near_status 1 result a near said;
      }

  -- where an answer stands in the place of the lines
  pub tells_unfilled : (result : ℕ) (a : Answer) → Unfilled files before after file a
      → IsSaidBy result (status a) → TellsSource Infers files file result
  tells_unfilled result a h said =
      let found = unfilled_found a h in
      record {
        missing =
            λ m. near_status 3 result a
            (missing_near IsUnfilled files before after file m a found) said;
        overlong =
            λ m. near_status 8 result a
            (overlong_near IsUnfilled files before after file m a found) said;
        there = λ source at. infers result a said source
            (there_found IsUnfilled files before after file source at a found);
      }

module _ (files : Option Files) (file : Text) (lines : List Text)
    (h : IsFillingOf files file lines) where
  -- the lines are those of the source which is there
  own_filling : (source : Text) → IsThere files LONGEST_SOURCE file source
      → IsFilledAs source lines
  own_filling source at =
      subst (λ (t : Text). IsFilledAs t lines)
      (sym (read_there files LONGEST_SOURCE file source h.0 at h.1)) h.2

  -- where they are told
  pub tells_filled : (result : ℕ) → IsSaidBy result 0 → TellsSource Infers files file result
  tells_filled result said = record {
    missing = λ m. absurd (missing_read files LONGEST_SOURCE file h.0 m h.1);
    overlong = λ m. absurd (overlong_read files LONGEST_SOURCE file h.0 m h.1);
    there = λ source at. record {
      filled = λ tree φ is_tree none accepted. same_status 0 0 result refl said;
      unfilled =
          λ tree is_tree none never.
          absurd (fills source lines (own_filling source at) tree is_tree never);
      untyped = λ f broken. absurd (typed_so source lines (own_filling source at) f broken);
    };
  }
