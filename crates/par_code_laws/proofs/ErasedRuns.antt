-- The run of a program without policies.
use Rattle.std.proofs.Common.{◌≡◌, ℕ, suc, Bool, true, false, cond, List, [], ◌∷◌, ◌++◌, Option}
use Rattle.std.proofs.Common.{Some, None, map, if◌then◌else◌, refl, ap, sym, ◌∙◌, subst}
use Rattle.std.specs.Prelude.{slice_get, codes}
use Rattle.std.specs.Str.{bytes_eq}
use Rattle.par_typed.specs.declared.table.ClassInfo.{ClassInfo}
use Rattle.par_typed.specs.declared.table.MethodInfo.{MethodInfo}
use Rattle.par_typed.specs.declared.table.Table.{Table}
use Rattle.par_typed.specs.Plain.{Body}
use Rattle.par_values.specs.declared.inputs.ChannelInput.{ChannelInput}
use Rattle.par_values.specs.Ran.{Fine}
use Rattle.par_values.specs.declared.value.MVal.{MVal}
use Rattle.par_secrecy.specs.Runs.{Run}
use Rattle.par_secrecy.specs.Secure.{events}
use Rattle.par_secrecy.specs.Shows.{shown_run}
use Rattle.par_typed.specs.Members.{methods_in}
use Rattle.par_program_laws.specs.Locals.{arriving_sure}
use Rattle.par_typed_laws.specs.Beginning.{mains, IsMainOf}
use Rattle.par_typed_laws.specs.WellTyped.{IsWellTyped}
use Rattle.par_run_laws.specs.Names.{channel_named, place_of, main_in, main_of}
use Rattle.par_run_laws.specs.State.{State}
use Rattle.par_run_laws.specs.Tasks.{Exit, Normal, Broken, Continued, Returned, Thrown}
use Rattle.par_run_laws.specs.Meaning.{method}
use Rattle.par_run_laws.specs.Source.{given_to, start, final, run_of}
use Rattle.par_erase.specs.Asked.{asked_in}
use Rattle.par_erase.specs.Erased.{erased_table, erased_bodies}
use Rattle.par_code_laws.specs.EraseLaws.{plain_run, PlainRunsShow, PlainFrontsAreFronts}
use Rattle.par_code_laws.proofs.Names.{same_first, same_main, same_ending}
use Rattle.par_code_laws.proofs.Channels.{same_input}
use Rattle.par_code_laws.proofs.Tasks.{Same, Goes, Alike, Lines, other}
use Rattle.par_code_laws.proofs.Exps.{Arrived}
use Rattle.par_code_laws.proofs.ErasedMethods.{methods_pair}

-- ---- the method `main`

-- the only method of the name is the first
first_main : (ms : List MethodInfo) (m : MethodInfo) → mains ms ≡ m ∷ []
    → slice_get ms (place_of (codes "main") ms) ≡ Some m
first_main [] m e = absurd cc
first_main (x ∷ xs) m e = by_name (bytes_eq x.name (codes "main")) e (λ h. first_main xs m h)
  where
    by_name : (b : Bool) → cond b (x ∷ mains xs) (mains xs) ≡ m ∷ []
        → (mains xs ≡ m ∷ [] → slice_get xs (place_of (codes "main") xs) ≡ Some m)
        → slice_get (x ∷ xs) (if b then 0 else suc (place_of (codes "main") xs)) ≡ Some m
    by_name true e h = let is : x ≡ m = cc in ap Some is
    by_name false e h = h e

main_found : (o : Option ClassInfo) (m : MethodInfo) → mains (methods_in o) ≡ m ∷ []
    → slice_get (methods_in o) (main_in o) ≡ Some m
main_found None m e = absurd cc
main_found (Some class) m e = first_main class.methods m e

-- nothing arrives
none_arrives : (t : Table) (m : MethodInfo) → IsMainOf t m → arriving_sure m ≡ []
none_arrives t m h =
    ap (λ b. cond b [] (true ∷ []) ++ map (λ p. p.notnull) m.params) h.is_static
    ∙ ap (λ ps. map (λ p. p.notnull) ps) h.params

-- ---- the run

module _ (t : Table) (bodies : List Body) (h : IsWellTyped t bodies) (lines : List ChannelInput)
  where
    -- what the lines give to channels by their places
    abbrev placed : Lines
    placed c k = given_to lines (channel_named (erased_table t) c k)

    -- the run begins alike
    begin_alike : Alike t (asked_in bodies) (start t lines).inputs [] placed []
    begin_alike = record {
      inputs = λ c k x there input. ap (given_to lines) (same_input t c k x there input);
      locks = λ l is. refl;
    }

    begins : start (erased_table t) lines ≡ other (start t lines) placed []
    begins =
        ap (λ f. record (other (start t lines) placed []) { statics = f }) (same_first t)

    -- and ends alike
    ends : (exit : Exit) (v : MVal)
        → Goes t (asked_in bodies) (λ x. Unit {0}) (final t exit v) (final (erased_table t) exit v)
    ends exit v = record {
      at = λ s i l n p a. record { shown = refl; ending = sym (same_ending t exit) };
    }

    abbrev plain_from : ℕ → (main : ℕ) → State → Run
    plain_from n main s =
        method (erased_table t) (erased_bodies t bodies) (suc n) t.main main
        (final (erased_table t)) s n

    runs_same : (n : ℕ) → Same (run_of t bodies lines n) (plain_run t bodies lines n)
    runs_same n =
        let main = h.main in
        let there = main_found (slice_get t.classes t.main) main.0 main.1.in_class in
        let goes =
        (methods_pair t bodies h.one_each h.proper (suc n) t.main (main_of t) main.0 there).at
        (final t) (final (erased_table t))
        (record {
          normal = ends Normal;
          broken = ends Broken;
          continued = ends Continued;
          returned = ends Returned;
          thrown = λ c. ends (Thrown c);
        }) in
        let empty : Arrived (arriving_sure main.0) (start t lines).locals = λ j e.
        let none : slice_get [] j ≡ Some true = ap (λ xs. slice_get xs j)
        (sym (none_arrives t main.0 main.1)) ∙ e in absurd cc in
        subst
        (λ main. Same (run_of t bodies lines n) (plain_from n main (start (erased_table t) lines)))
        (sym (same_main t))
        (subst (λ s. Same (run_of t bodies lines n) (plain_from n (main_of t) s)) (sym begins)
        (goes.at (start t lines) placed [] n empty begin_alike))

-- the runs show the same
shown_same : (r q : Run) → Same r q → shown_run r ≡ shown_run q
shown_same r q h =
    ap (λ es. record { events = es; ending = Fine r.ending }) h.shown
    ∙ ap (λ e. record { events = events q.events; ending = Fine e }) h.ending

pub plain_runs_show : PlainRunsShow
plain_runs_show t bodies h lines n =
    sym (shown_same (run_of t bodies lines n) (plain_run t bodies lines n)
    (runs_same t bodies h lines n))

pub plain_fronts_are_fronts : PlainFrontsAreFronts
plain_fronts_are_fronts t bodies h lines n ran front =
    let same = plain_runs_show t bodies h lines n in
    record {
      first = (front.first.0, sym (ap (λ r. r.events) same) ∙ front.first.1);
      whole = λ ended. front.whole ended ∙ same;
    }
