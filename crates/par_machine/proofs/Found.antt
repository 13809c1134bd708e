-- The instruction at which a run stands is found, or none is.
use Rattle.std.proofs.Common.{◌≡◌, ℕ, ◌<◌, ◌≤◌, Bool, true, List, [], length, drop, Option, Some}
use Rattle.std.proofs.Common.{None, IsSome, Result, refl, sym, ap, subst, ◌∙◌, inl, arith}
use Rattle.std.proofs.Math.Seq.{drop-nil}
use Rattle.std.specs.Option.{option_and_then}
use Rattle.par_class.specs.declared.file.ClassFile.{ClassFile}
use Rattle.par_class.specs.declared.file.CodeAttr.{CodeAttr}
use Rattle.par_class.specs.declared.file.MethodFile.{MethodFile}
use Rattle.par_instr.specs.Decoding.{Decoded, decoded, decoded_at}
use Rattle.par_stack.specs.declared.point.Point.{Point}
use Rattle.par_stack.specs.Frames.{Frame, running}
use Rattle.par_method_area.specs.par_step_laws.Methods.{code_or_none, code_in, method_code}
use Rattle.par_method_area.specs.par_step_laws.Methods.{method_file}
use Rattle.par_method_area.specs.par_step_laws.State.{State}
use Rattle.par_method_area.specs.par_step_laws.Step as plain
use Rattle.par_method_area.specs.par_step_laws.Step.{turn}
use Rattle.par_method_area.specs.Area.{Area}
use Rattle.par_method_area.specs.Known.{code_at, IsCode, KnowsCode}
use Rattle.par_method_area.specs.declared.known.Code.{Code}
use Rattle.par_machine.specs.Advanced.{is_asking, IsAdvanced}
use Rattle.par_machine.specs.Frames.{code_of, are_sound}
use Rattle.par_machine.specs.Running.{here, below, state_in, IsSound}
use Rattle.par_machine.specs.Settled.{turn_from}
use Rattle.par_machine.specs.Site as site
use Rattle.par_machine.specs.Throwing.{bad_at}
use Rattle.par_machine.specs.Turn.{IsTurn, is_call_or_make, calls_or_makes, MakesOrTells}
use Rattle.par_machine.specs.declared.run.Running.{Running}
use Rattle.par_machine.specs.declared.site.Site.{Site}
use Rattle.par_machine.specs.declared.turn.Turn.{Turn}
use Rattle.par_machine.specs.declared.turn.Stuck.{Stuck}
use Rattle.par_machine.proofs.Sound.{first_stands}
use Rattle.par_machine.proofs.Turning.{turn_found}

-- the point of the frame that runs
pub point_stands : (files : List ClassFile) (frames : List Frame) (p : Point)
    → p ≡ (running frames).point → 0 < length frames → are_sound files frames ≡ true
    → (p.class < length files) × (p.at ≤ length (code_of files p).code)
point_stands files frames p same some sound =
    let stands = first_stands files frames some sound in
    subst (λ (q : Point). (q.class < length files) × (q.at ≤ length (code_of files q).code))
    (sym same) (stands.class, stands.within)

-- ---- the code of a method

pub code_known : (files : List ClassFile) (class method : ℕ) (c : Option CodeAttr) (code : Code)
    → KnowsCode files class method c (Some code) → IsCode files class method code
code_known files class method None code knows = absurd knows
code_known files class method (Some c) code knows = knows

-- ---- no instruction

pub nothing_decoded : (bytes : List ℕ) (at : ℕ) → bytes ≡ [] → decoded_at bytes at ≡ None
nothing_decoded bytes at none =
    ap (λ (bs : List ℕ). decoded (drop at bs)) none ∙ ap decoded (drop-nil {A = ℕ} at)

-- an instruction stands in code alone
coded_own : (c : Option CodeAttr) (at : ℕ) (d : Decoded)
    → decoded_at (code_or_none c).code at ≡ Some d → IsSome c
coded_own None at d found = absurd (cc (sym (nothing_decoded [] at refl) ∙ found))
coded_own (Some c) at d found = refl

coded_in : (m : Option MethodFile) (at : ℕ) (d : Decoded)
    → decoded_at (code_in m).code at ≡ Some d → IsSome (option_and_then (λ m. m.code) m)
coded_in None at d found = absurd (cc (sym (nothing_decoded [] at refl) ∙ found))
coded_in (Some m) at d found = coded_own m.code at d found

pub coded : (files : List ClassFile) (class method at : ℕ) (d : Decoded)
    → decoded_at (method_code files class method).code at ≡ Some d
    → IsSome (code_at files class method)
coded files class method at d found = coded_in (method_file files class method) at d found

-- code that is there is known
pub never_unknown : (files : List ClassFile) (class method : ℕ) (c : Option CodeAttr)
    → IsSome c → KnowsCode files class method c None → ⊥
never_unknown files class method None some knows = absurd (cc some)
never_unknown files class method (Some c) some knows = knows

module _ (area : Area) (r : Running) (result : Result Turn Stuck) (p : Point)
    (there : p ≡ (running r.stack).point) where
  abbrev found_at : Point → Option Decoded
  found_at p = decoded_at (code_of area.files p).code p.at

  abbrev turn_at_first : Running → plain.Turn
  turn_at_first r = turn area.files (state_in area.files r)

  pub finds_nothing : IsSound area r → found_at p ≡ None
      → ((after : State) → IsTurn result (bad_at area.files p 5) after)
      → IsAdvanced area (is_asking area.files r) (turn_at_first r) r result r
  finds_nothing sound none is =
      let turns : turn_at_first r ≡ bad_at area.files p 5 =
      turn_found area.files (here r) (below r) (state_in area.files r) None refl
      (ap found_at (sym there) ∙ none) ∙ ap (λ (p : Point). bad_at area.files p 5) (sym there) in
      record {
        is = subst (λ t. IsTurn result t (state_in area.files r)) (sym turns)
            (is (state_in area.files r));
        memory = λ lost. inl (subst (λ t. MakesOrTells t (state_in area.files r)) (sym turns) tt);
        over = λ ended. refl;
        sound = sound;
        grown = λ class. omega arith;
      }

  -- ---- an instruction

  pub finds : (s : Site) (new : Running) → found_at p ≡ Some (site.decoded s)
      → IsAdvanced area (calls_or_makes s.instr) (turn_from area.files r s) r result new
      → IsAdvanced area (is_asking area.files r) (turn_at_first r) r result new
  finds s new found is =
      let here_found = ap found_at (sym there) ∙ found in
      let turns : turn_at_first r ≡ turn_from area.files r s =
      turn_found area.files (here r) (below r) (state_in area.files r) (Some (site.decoded s))
      refl here_found in
      let asks : is_asking area.files r ≡ calls_or_makes s.instr = ap is_call_or_make here_found in
      subst (λ (b : Bool). IsAdvanced area b (turn_at_first r) r result new) (sym asks)
      (subst (λ t. IsAdvanced area (calls_or_makes s.instr) t r result new) (sym turns) is)
