-- Fillings that the same see are accepted alike.
use Rattle.std.proofs.Common.{◌≡◌, ℕ, suc, Bool, true, false, cond, List, [], ◌∷◌, refl}
use Rattle.std.proofs.Common.{ap, subst, ◌∙◌, Contains}
use Rattle.std.specs.Prelude.{IsTrue}
use Rattle.par_policy.specs.declared.clauses.Clause.{Clause}
use Rattle.par_policy.specs.Sees.{sees}
use Rattle.par_bits.specs.Sets.{Set}
use Rattle.par_typed.specs.declared.table.ClassInfo.{ClassInfo}
use Rattle.par_typed.specs.declared.table.FieldInfo.{FieldInfo}
use Rattle.par_typed.specs.declared.table.Table.{Table}
use Rattle.par_typed.specs.Plain.{Body}
use Rattle.par_program_laws.specs.Lattice.{Seen, IsSeenBelow}
use Rattle.par_program_laws.specs.Facts.{Facts}
use Rattle.par_program_laws.specs.Declares.{declares}
use Rattle.par_program_laws.specs.Closed.{IsClosed}
use Rattle.par_check_laws.specs.Asked.{Check}
use Rattle.par_check_laws.specs.Checks.{checks}
use Rattle.par_check_laws.specs.Keeps.{Keeps}
use Rattle.par_pass_laws.specs.Seens.{seen_as, given_of}
use Rattle.par_program_laws.specs.Inferred.{inferred}
use Rattle.par_infer.specs.Seens.{filled, IsPolicy}
use Rattle.par_infer.specs.Keeps.{strict}
use Rattle.par_infer.specs.Filling.{Filling, with_filling, IsAccepted, IsBodyAccepted}
use Rattle.par_infer.specs.Filling.{join_filling}
use Rattle.par_told.specs.Told.{told}
use Rattle.par_told.specs.Laws.{ToldIsLeast}
use Rattle.par_told.proofs.Told.{told_member, told_stands}

-- the list of policies with the one in place is that with the other
filled_same : (ps : List (List Clause)) (is : Set) (φ ψ : ℕ → Seen)
    → ((i : ℕ) → IsTrue (is i) → φ i ≡ ψ i) → filled is φ ps ≡ filled is ψ ps
filled_same [] is φ ψ same = refl
filled_same (p ∷ ps) is φ ψ same =
    ap (λ (x : Seen). x ∷ filled (λ n. is (suc n)) (λ n. φ (suc n)) ps) (pick (is 0) (same 0))
    ∙ ap (λ (rest : List Seen). cond (is 0) (ψ 0) (sees p) ∷ rest)
    (filled_same ps (λ n. is (suc n)) (λ n. φ (suc n)) (λ n. ψ (suc n)) (λ i. same (suc i))) where
      pick : (b : Bool) → (IsTrue b → φ 0 ≡ ψ 0)
          → (let one : Seen = cond b (φ 0) (sees p) in
          let other : Seen = cond b (ψ 0) (sees p) in one ≡ other)
      pick true h = h refl
      pick false h = refl

module _ (table : Table) (φ ψ : Filling)
    (same : (i : ℕ) → IsTrue (inferred table i) → φ i ≡ ψ i) where
  lists : with_filling table φ ≡ with_filling table ψ
  lists = filled_same table.policies (inferred table) φ ψ same

  -- closed facts over a list of policies that keep all rules on a body
  abbrev Over : Body → List Seen → Type 0
  Over b ps =
      (facts : Facts (seen_as ps)) × IsClosed (seen_as ps) (declares table) b facts
      × ((c : Check) → Contains (checks table b) c
      → Keeps (seen_as ps) (λ p. p) (given_of ps) facts (strict (inferred table) c))

  body_so : (b : Body) → IsBodyAccepted table φ b → IsBodyAccepted table ψ b
  body_so b h =
      let moved : Over b (with_filling table ψ) =
      subst (Over b) lists (h.facts, h.closed, h.kept) in
      record { facts = moved.0; closed = moved.1; kept = moved.2 }

  accepted_so : (bs : List Body) → IsAccepted table bs φ → IsAccepted table bs ψ
  accepted_so bs a = record {
    policies = λ i h. subst (λ (p : Seen). IsPolicy p) (same i h) (a.policies i h);
    births =
        subst (λ (ps : List Seen). (c : ClassInfo) (f : FieldInfo) → Contains table.classes c
        → Contains c.fields f → IsTrue f.inferred → f.is_static ≡ false
        → IsSeenBelow (given_of ps c.birth) (given_of ps f.policy)) lists a.births;
    bodies = λ b there. body_so b (a.bodies b there);
  }

pub told_least : ToldIsLeast
told_least table bs σ declared few least =
    let same : (i : ℕ) → IsTrue (inferred table i)
    → join_filling table σ i ≡ join_filling table (λ i. told table.policies (σ i)) i =
    λ i h. told_stands table declared few (σ i) (λ n. least.known i n h) in
    record {
      accepted =
          accepted_so table (join_filling table σ)
          (join_filling table (λ i. told table.policies (σ i))) same bs least.accepted;
      least = λ ψ a i h. subst (λ (p : Seen). IsSeenBelow p (ψ i)) (same i h) (least.least ψ a i h);
      known = λ i n h t. least.known i n h (told_member table.policies (σ i) n t);
    }
