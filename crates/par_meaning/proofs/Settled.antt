-- What is done at no price between two steps.
use Rattle.std.proofs.Common.{◌≡◌, ℕ, suc, List, [], ◌∷◌, ap, sym, ◌∙◌}
use Rattle.par_secrecy.specs.Runs.{Run}
use Rattle.par_meaning.specs.declared.machine.Machine.{Machine}
use Rattle.par_source_state.specs.declared.program.Program.{Program}
use Rattle.par_meaning.specs.declared.steps.Rest.TheVariants as rest
use Rattle.par_meaning.specs.declared.work.Completion.{Completion}
use Rattle.par_meaning.specs.declared.work.Next.{Next}
use Rattle.par_meaning.specs.declared.work.Then.{Then}
use Rattle.par_meaning.specs.declared.work.Then.TheVariants.{Goes, Waits, Ends}
use Rattle.par_meaning.specs.declared.work.Waiting.{Waiting}
use Rattle.par_meaning.specs.Work.{Setting, Follows, left, goes, completes}
use Rattle.par_meaning.specs.Onward.{setting, state_of, behind, onward, TakesUp}
use Rattle.par_meaning.specs.Whole.{whole}

module _ (p : Setting) (ws : List Waiting) (m : Machine) (on : Then) (all : Run) (n : ℕ)
    (is_all : onward p (left p ws) m on n ≡ all) where
  pub settled_goes : (next : Next) → on ≡ Goes next → whole p ws m (rest.Next next) n ≡ all
  settled_goes next is = ap (λ on. onward p (left p ws) m on n) (sym is) ∙ is_all

  pub settled_waits : (ws' : List Waiting) (w : Waiting) (next : Next) → on ≡ Waits w next → ws'
      ≡ w ∷ ws → whole p ws' m (rest.Next next) n ≡ all
  unfolding left
  settled_waits ws' w next is pushed =
      ap (λ ws. whole p ws m (rest.Next next) n) pushed
      ∙ ap (λ on. onward p (left p ws) m on n) (sym is) ∙ is_all

  pub settled_over : (ws' : List Waiting) (e : Completion) → on ≡ Ends e → ws ≡ []
      → whole p ws' m (rest.Over e) n ≡ all
  unfolding left
  settled_over ws' e is none =
      ap (λ ws. behind m.events (completes (left p ws m.frames.below m.values) e (state_of p m) n))
      (sym none)
      ∙ ap (λ on. onward p (left p ws) m on n) (sym is) ∙ is_all

-- what waits takes a completion up
pub resumed : (program : Program) (ws ws' : List Waiting) (m m' : Machine) (on on' : Then)
    (w : Waiting) (e : Completion)
    → on ≡ Ends e → ws ≡ w ∷ ws' → TakesUp program w e m m' on' → (d n : ℕ)
    → let p = setting program d in
    onward p (left p ws') m' on' n ≡ onward p (left p ws) m on n
unfolding left
resumed program ws ws' m m' on on' w e is pops takes d n =
    let p = setting program d in
    takes d (left p ws') n
    ∙ ap (λ ws. behind m.events (completes (left p ws m.frames.below m.values) e (state_of p m) n))
    (sym pops)
    ∙ ap (λ on. onward p (left p ws) m on n) (sym is)

-- what is done next is known
pub stepped_so : (p : Setting) (follows : Follows) (m : Machine) (n : ℕ) (next next' : Next) → next
    ≡ next'
    → behind m.events (goes p next' follows m.frames.below m.values (state_of p m) (suc n))
    ≡ behind m.events (goes p next follows m.frames.below m.values (state_of p m) (suc n))
stepped_so p follows m n next next' is =
    ap (λ next. behind m.events (goes p next follows m.frames.below m.values (state_of p m)
    (suc n))) (sym is)
