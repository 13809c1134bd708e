-- The first rule that fails with the least sets is the first that fails with every filling.
use Rattle.std.proofs.Common.{◌≡◌, ◌⊎◌, ℕ, true, false, List, [], ◌∷◌, Contains, refl, sym, subst}
use Rattle.std.proofs.Common.{inl, inr}
use Rattle.par_policy.proofs.Ordered.{Contains-nil}
use Rattle.par_bits.specs.Sets.{Set}
use Rattle.par_typed.specs.declared.table.Table.{Table}
use Rattle.par_refusals.specs.declared.refusal.Refusal.{Refusal}
use Rattle.par_refusals.specs.First.{broken, comes_before}
use Rattle.par_typed.specs.Plain.{Body}
use Rattle.par_program_laws.specs.Lattice.{numbers}
use Rattle.par_program_laws.specs.Facts.{Facts}
use Rattle.par_program_laws.specs.Declares.{declares}
use Rattle.par_pass_laws.proofs.Along.{closed_along}
use Rattle.par_check.specs.par_check_laws.Asked.{Check}
use Rattle.par_check.specs.par_check_laws.Checks.{checks}
use Rattle.par_reached.specs.Reached.{AreLeastSets}
use Rattle.par_pass_laws.specs.Seens.{given_of, seen_as, join_of}
use Rattle.par_check.specs.par_check_laws.Keeps.{Keeps}
use Rattle.par_infer.specs.Keeps.{strict}
use Rattle.par_program_laws.specs.Inferred.{inferred}
use Rattle.par_infer.specs.Bounds.{bounds, replaced}
use Rattle.par_infer.specs.Filling.{Filling, with_filling, join_filling}
use Rattle.par_check.specs.par_check_laws.Right.{AreRight}
use Rattle.par_infer.proofs.Effects.{AreApart, apart}
use Rattle.par_infer.specs.Laws.{AreAll, KeepsReplaced, is_bound}
use Rattle.par_infer.specs.First.{IsBrokenAlways, IsFirstFailed}
use Rattle.par_infer.specs.First.{FirstFailedIsFirstAlways}
use Rattle.par_infer.proofs.Choices.{by_cases, first_or_later}
use Rattle.par_infer.proofs.Instances.{stand_for}
use Rattle.par_infer.proofs.Kept.{meant, kept}
use Rattle.par_infer.proofs.Replaced.{replaced_upper, new_kept}
use Rattle.par_infer.proofs.Fillings.{all_right, are_policies, own_meets, failed, refused}

all_both : (P Q : Body → Facts numbers → Type 0) (bs : List Body) (fs : List (Facts numbers))
    → AreAll P bs fs → AreAll Q bs fs → AreAll (λ b f. P b f × Q b f) bs fs
all_both P Q [] fs h k = tt
all_both P Q (b ∷ bs) [] h k = absurd h
all_both P Q (b ∷ bs) (f ∷ fs) h k = ((h.0, k.0), all_both P Q bs fs h.1 k.1)

one_of : (P : Body → Facts numbers → Type 0) (bs : List Body) (fs : List (Facts numbers)) (b : Body)
    (C : Type 0) → AreAll P bs fs → Contains bs b → ((f : Facts numbers) → P b f → C) → C
one_of P [] fs b C h m g = absurd (Contains-nil b m)
one_of P (d ∷ bs) [] b C h m g = absurd h
one_of P (d ∷ bs) (f ∷ fs) b C h m g =
    first_or_later d bs b C (λ e. g f (subst (λ d. P d f) (sym e) h.0))
    (λ m. one_of P bs fs b C h.1 m g) m

cases : (A B C : Type 0) → (A → C) → (B → C) → A ⊎ B → C
cases A B C f g (inl a) = f a
cases A B C f g (inr b) = g b

module _ (table : Table) (bs : List Body) (fs : List (Facts numbers)) (σ : ℕ → Set) (r : Refusal)
    (fields : AreApart table bs) (found : AreAll (AreRight table) bs fs)
    (least : AreLeastSets (inferred table) (bounds table bs fs) σ)
    (w : IsFirstFailed table bs fs σ r) where
  abbrev own : Filling
  own = join_filling table σ

  breaks : IsBrokenAlways table bs fs w.check.rule w.check.at
  breaks ψ m = record {
    body = w.body;
    there = w.there;
    fails = λ a closed. record {
      check = w.check;
      asked = w.asked;
      rule_is = refl;
      at_is = refl;
      broken =
          failed table bs fs fields σ least w.body w.facts w.check w.there w.right w.asked w.other
          w.fails ψ m a closed;
    };
  }

  none_before : (rule at : ℕ) → IsBrokenAlways table bs fs rule at
      → comes_before (broken rule at) r ≡ false
  none_before rule at always =
      let meets = own_meets table bs fs fields σ least found in
      let qs = with_filling table own in
      let p = are_policies table own meets.policies fields.ranges in
      let x = always own meets in
      one_of (λ b f. (AreRight table b f × ((c : Check) → Contains (checks table b) c
      → is_bound table c ≡ true
      → Keeps numbers (join_of qs) (given_of qs) f (strict (inferred table) c)))
      × ((c : Check) → Contains (checks table b) c → is_bound table c ≡ false
      → (comes_before (broken c.rule c.at) r ≡ false) ⊎ KeepsReplaced table σ f c))
      bs fs x.body (comes_before (broken rule at) r ≡ false)
      (all_both _ _ bs fs (all_both _ _ bs fs found meets.writes) w.before) x.there
      (λ f h.
      let y =
      x.fails (meant qs p f)
      (closed_along (seen_as qs) (stand_for qs) f (declares table) x.body h.0.0.closed) in
      let c = y.check in
      by_cases (is_bound table c) (comes_before (broken rule at) r ≡ false)
      (λ e. absurd (y.broken (kept qs p f (strict (inferred table) c) (h.0.1 c y.asked e))))
      (λ e. cases (comes_before (broken c.rule c.at) r ≡ false) (KeepsReplaced table σ f c)
      (comes_before (broken rule at) r ≡ false)
      (λ q. subst (λ k. comes_before (broken k at) r ≡ false) y.rule_is
      (subst (λ k. comes_before (broken c.rule k) r ≡ false) y.at_is q))
      (λ k. absurd (y.broken (kept qs p f (strict (inferred table) c)
      (new_kept table.policies (inferred table) own (replaced (inferred table) σ) f
      (replaced_upper table.policies (inferred table) σ fields.ranges fields.few) c e
      (λ g q z. fields.effects x.body c g q x.there y.asked z) k))))
      (h.1 c y.asked e)))

pub first_always : FirstFailedIsFirstAlways
first_always table bs fs σ r fields few right least w =
    let own = apart table bs fields few in
    let found = all_right table bs fs right in record {
      breaks =
          subst (λ (r : Refusal). IsBrokenAlways table bs fs r.rule r.at) (sym w.is)
          (breaks table bs fs σ r own found least w);
      first = none_before table bs fs σ r own found least w;
      none =
          refused table bs fs own σ least w.body w.facts w.check w.there w.right w.asked w.other
          w.fails found;
    }
