-- As long as fewer steps are left than calls are allowed to be deep, a call and a turn of a loop
-- are
-- allowed as much as what they stand in.
use Rattle.std.proofs.Common.{◌≡◌, ℕ, suc, ◌<◌, List, refl, arith, subst}
use Rattle.par_typed.specs.declared.table.Table.{Table}
use Rattle.par_typed.specs.Plain.{Body, TExp, TSta}
use Rattle.par_run_laws.specs.Names.{body_of}
use Rattle.par_run_laws.specs.State.{State}
use Rattle.par_run_laws.specs.Tasks.{Rests, Task, turn, turns}
use Rattle.par_run_laws.specs.Values.{is_true}
use Rattle.par_run_laws.specs.Meaning.{eval, go, within, method}
use Rattle.par_run_laws.proofs.Longer.{Grows, Meets, RestsMeet, weaker, meets_itself, turn_grows}
use Rattle.par_run_laws.proofs.Longer.{turns_grow, eval_grows, go_grows, method_grows}

-- what grows is equal at equally many steps
equal_at : (J : ℕ) (c c' : Task) → Grows 0 J c c' → (rest : Rests) (s : State) (n : ℕ) → n < J
    → c rest s n ≡ c' rest s n
equal_at J c c' g rest s n a =
    let same : RestsMeet 0 J rest rest = λ e v s p q z. let k : p ≡ q = omega arith in
    subst (λ q. Meets J p q (rest e v s p) (rest e v s q)) k
    (meets_itself J p p (rest e v s p)) in
    (g.at J (omega arith) rest rest same s n n (omega arith)).same refl a

pub method_deep : (t : Table) (bs : List Body) (d c i : ℕ) (rest : Rests) (s : State) (n : ℕ)
    → n < d
    → method t bs d c i rest s n ≡ within t (method t bs d) (suc d) (body_of bs c i) rest s n
unfolding method
method_deep t bs d c i rest s n h =
    equal_at d _ _ (method_grows 0 t bs d (suc d) (omega arith) c i) rest s n h

pub turns_deep : (t : Table) (bs : List Body) (d : ℕ) (e : TExp) (b : TSta) (rest : Rests)
    (s : State) (n : ℕ) → n < suc d
    → let run = method t bs d in let one = turn is_true (eval t run e) (go t run (suc d) b) in
    turns (suc d) one rest s n ≡ one (turns (suc d) one) rest s n
turns_deep t bs d e b rest s n h =
    let run = method t bs d in
    let same = method_grows 0 t bs d d (omega arith) in
    let test = eval_grows t 0 d d (omega arith) run run same e in
    let block = go_grows t 0 d d (omega arith) run run same b in
    let again =
    turns_grow 0 (suc d) _ _ _ _ test block d (suc d) (omega arith) (omega arith) in
    equal_at (suc d) _ _
    (turn_grows 0 d _ _ _ _ _ _ (weaker 0 d (suc d) _ _ (omega arith) test)
    (weaker 0 d (suc d) _ _ (omega arith) block) again) rest s n h
