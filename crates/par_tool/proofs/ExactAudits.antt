-- The status of a call that is to audit a source is the one that the source and the actor ask for.
use Rattle.std.proofs.Common.{◌≡◌, ℕ, List, Option, Some, None, refl, sym, ap, subst, ◌∙◌, inl, inr}
use Rattle.std.specs.Prelude.{◌⊎◌}
use Rattle.par_io.specs.Causes.{FolderCounts, Files}
use Rattle.par_lexer.specs.declared.cut.TheConstants.{LONGEST_SOURCE}
use Rattle.par_tree.specs.Plain.{Source}
use Rattle.par_typed.specs.declared.table.Table.{Table}
use Rattle.par_typed.specs.declared.program.Typed.{Typed}
use Rattle.par_resolved.specs.Resolved.{table_of}
use Rattle.par_observer.specs.Judgements.{IsAcceptedSource, IsTreeOf}
use Rattle.par_observer.proofs.Clashes.{one_tree}
use Rattle.par_tool.specs.declared.answer.Answer.{Answer}
use Rattle.par_tool.specs.declared.answer.Answer.TheVariants.{Refused, Absent, ReadFault, TooLong}
use Rattle.par_tool.specs.declared.answer.Answer.TheVariants.{NoActor}
use Rattle.par_tool.specs.Texts.{status}
use Rattle.par_tool.specs.Outside.{Text, IsThere}
use Rattle.par_tool.specs.Sources.{IsBroken, IsSecureAs}
use Rattle.par_tool.specs.Audits.{actor_of, IsUnaudited, IsAuditedAs, IsAuditOf, Unaudited}
use Rattle.par_tool.specs.Exactly.{IsSaidBy, Judges, TellsSource, Audits}
use Rattle.par_tool.proofs.ExactSources.{IsAnyhow, clash, Found, near_there, tells_source}
use Rattle.par_tool.proofs.ExactSources.{secure_is_accepted}
use Rattle.par_tool.proofs.Statuses.{IsNear, same, near_status, same_status, read_there}
use Rattle.par_tool.proofs.Statuses.{missing_read, overlong_read}

-- which actor an accepted source declares is read off its tree
module _ (source actor : Text) (typed : Typed) (own : IsSecureAs source typed) (tree : Source)
    (is_tree : IsTreeOf source tree) where
  own_actor : actor_of typed.table actor ≡ actor_of (table_of tree) actor
  own_actor =
      let mine = own.accepted in
      ap (λ (t : Table). actor_of t actor)
      (mine.keeps.1.table_is
      ∙ ap table_of (one_tree source mine.tree tree mine.is_tree is_tree))

  declared_or_not : (number : ℕ) → actor_of (table_of tree) actor ≡ Some number
      → actor_of typed.table actor ≡ None → ⊥
  declared_or_not number some none =
      let e : None ≡ Some number = sym none ∙ own_actor ∙ some in
      cc

  undeclared_or_so : (number : ℕ) → actor_of (table_of tree) actor ≡ None
      → actor_of typed.table actor ≡ Some number → ⊥
  undeclared_or_so number none some =
      let e : None ≡ Some number = sym none ∙ sym own_actor ∙ some in
      cc

module _ (files : Option Files) (before after : FolderCounts) (actor file : Text) where
  abbrev Verdict : Text → Answer → Type 0
  Verdict source a = IsUnaudited source actor a

  unaudited_found : (a : Answer) → Unaudited files before after actor file a
      → Found Verdict files before after file a
  unaudited_found NoActor h = inl h
  unaudited_found (Refused rule line column limit count) h = inl h
  unaudited_found Absent h = inr h
  unaudited_found ReadFault h = inr h
  unaudited_found TooLong h = inr h
  unaudited_found _ h = absurd h

  refuses : (source : Text) (a : Answer) → Verdict source a → (rule line column limit count : ℕ)
      → IsBroken source rule line column limit count → IsNear 1 a
  refuses source (Refused r l c k n) v rule line column limit count broken = same refl
  refuses source NoActor v rule line column limit count broken =
      absurd (clash source rule line column limit count
      (secure_is_accepted source (v.typed, v.accepted)) broken)
  refuses source _ v rule line column limit count broken = absurd v

  declares : (source : Text) (a : Answer) → Verdict source a → IsAcceptedSource source
      → (tree : Source) (number : ℕ) → IsTreeOf source tree
      → actor_of (table_of tree) actor ≡ Some number → IsNear 0 a
  declares source (Refused rule line column limit count) v is tree number is_tree some =
      absurd (clash source rule line column limit count is v)
  declares source NoActor v is tree number is_tree some =
      absurd (declared_or_not source actor v.typed v.accepted tree is_tree number some
      v.undeclared)
  declares source _ v is tree number is_tree some = absurd v

  lacks : (source : Text) (a : Answer) → Verdict source a → IsAcceptedSource source
      → IsNear 15 a
  lacks source (Refused rule line column limit count) v is =
      absurd (clash source rule line column limit count is v)
  lacks source NoActor v is = same refl
  lacks source _ v is = absurd v

  accepts : (result : ℕ) (a : Answer) → IsSaidBy result (status a) → (source : Text)
      → Verdict source a ⊎ IsAnyhow a → IsAcceptedSource source → Audits actor source result
  accepts result a said source v is = record {
    audited = λ tree number is_tree some. near_status 0 result a
        (near_there Verdict files before after file 0 source a
        (λ own. declares source a own is tree number is_tree some) v) said;
    no_actor = λ tree is_tree none. near_status 15 result a
        (near_there Verdict files before after file 15 source a
        (λ own. lacks source a own is) v) said;
  }

  -- where an answer stands in the place of the audit
  pub tells_unaudited : (result : ℕ) (a : Answer) → Unaudited files before after actor file a
      → IsSaidBy result (status a) → TellsSource (Judges (Audits actor)) files file result
  tells_unaudited result a h said =
      tells_source Verdict files before after file (Audits actor) result a
      (unaudited_found a h) (accepts result a said) (λ source. refuses source a) said

module _ (files : Option Files) (actor file : Text) (lines : List Text)
    (h : IsAuditOf files actor file lines) where
  -- the audit is that of the source which is there
  own_audit : (source : Text) → IsThere files LONGEST_SOURCE file source
      → IsAuditedAs source actor lines
  own_audit source at =
      subst (λ (t : Text). IsAuditedAs t actor lines)
      (sym (read_there files LONGEST_SOURCE file source h.0 at h.1)) h.2

  -- where the audit is told
  pub tells_audited : (result : ℕ) → IsSaidBy result 0
      → TellsSource (Judges (Audits actor)) files file result
  tells_audited result said = record {
    missing = λ m. absurd (missing_read files LONGEST_SOURCE file h.0 m h.1);
    overlong = λ m. absurd (overlong_read files LONGEST_SOURCE file h.0 m h.1);
    there = λ source at. record {
      accepted = λ is. record {
        audited = λ tree number is_tree some. same_status 0 0 result refl said;
        no_actor = λ tree is_tree none.
            let own = own_audit source at in
            absurd (undeclared_or_so source actor own.typed own.accepted tree is_tree own.number
            none own.declared);
      };
      refused =
          λ rule line column limit count broken.
          let own = own_audit source at in
          absurd (clash source rule line column limit count
          (secure_is_accepted source (own.typed, own.accepted)) broken);
    };
  }
