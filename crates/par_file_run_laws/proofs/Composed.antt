-- The laws of the parts, put together.
use Rattle.std.proofs.Common.{◌≡◌, ℕ, ◌+◌, ◌*◌, ◌≤◌, List, Option, Some, None}
use Rattle.std.proofs.Common.{slice_get, refl, sym, ap, subst, ◌∙◌, arith}
use Rattle.std.specs.List.{All}
use Rattle.std.specs.Option.{option_map}
use Rattle.std.proofs.lemmas.Option.{slice_get-map}
use Rattle.par_typed.specs.declared.table.ClassInfo.{ClassInfo}
use Rattle.par_typed.specs.declared.table.Table.{Table}
use Rattle.par_typed.specs.Plain.{TSta, Body}
use Rattle.par_typed.specs.Shown.{bodies}
use Rattle.par_class.specs.declared.file.ClassFile.{ClassFile}
use Rattle.par_values.specs.declared.inputs.Inputs.{Inputs}
use Rattle.par_values.specs.declared.run.Ending.{Ending}
use Rattle.par_values.specs.declared.run.Ending.TheVariants.{Stopped}
use Rattle.par_values.specs.Areas.{Name, Areas}
use Rattle.par_values.specs.Ran.{Ran, Fine}
use Rattle.par_secrecy.specs.Target.{fitting}
use Rattle.par_secrecy.specs.Shows.{shown_run, IsFrontOf, IsFine}
use Rattle.par_run_laws.specs.Names.{body_of, main_of}
use Rattle.par_run_laws.specs.Source.{run_of, source}
use Rattle.par_erase.specs.Asked.{asked_in}
use Rattle.par_erase.specs.Erased.{erased_table, erased_class, erased_bodies}
use Rattle.par_code_form.specs.declared.labelled.Labelled.{Labelled}
use Rattle.par_code_form.specs.Code.{Words}
use Rattle.par_code_form.specs.Method.{labelled}
use Rattle.par_code_form.specs.Named.{of_class, class_word, words_of}
use Rattle.par_code_laws.specs.par_step_laws.Methods.{method_name}
use Rattle.par_code_laws.specs.par_step_laws.Run.{class_number, machine_run}
use Rattle.par_code_laws.specs.par_step_laws.Run as files_run
use Rattle.par_code_laws.specs.par_step_laws.State.{State, start}
use Rattle.par_code_laws.specs.par_step_laws.Target.{target}
use Rattle.par_code_laws.proofs.par_step_laws.Extending.{more_instructions}
use Rattle.par_placed_run_laws.specs.par_match_laws.Engine.{Program, run}
use Rattle.par_placed_run_laws.specs.par_match_laws.Labelled.{Naming, of_labelled}
use Rattle.par_placed_run_laws.specs.par_match_laws.Naming.{naming_of}
use Rattle.par_source_code_laws.specs.par_code_form.Placeable.{FitsItem}
use Rattle.par_code_laws.specs.par_evaluation_laws.Laid.{Layout, Meth}
use Rattle.par_code_laws.specs.par_evaluation_laws.Programs.{IsCompiled, begins}
use Rattle.par_code_laws.specs.Laws.{ShowsRuns, Begins, LabelledCodeShows}
use Rattle.par_code_laws.specs.EraseLaws.{PlainRunsShow, PlainFrontsAreFronts}
use Rattle.par_source_code_laws.specs.Laws.{BodiesAreErased}
use Rattle.par_source_code_laws.specs.Compiled.{WellTypedProgramsAreCompiled}
use Rattle.par_source_code_laws.proofs.Bodies.{found}
use Rattle.par_source_code_laws.specs.PlaceableLaws.{IsReadyBody, LabelledCodeIsPlaceable}
use Rattle.par_source_code_laws.specs.PlaceableLaws.{WordsAreTexts}
use Rattle.par_placed_run_laws.specs.Laid.{IsLaid, PlacedCodeRuns, begun}
use Rattle.par_placed_run_laws.specs.Made.{PlacedCodeIsLaid}
use Rattle.par_file_run_laws.specs.Layout.{layout_of}
use Rattle.par_file_run_laws.specs.Code.{code_at, labelled_of}
use Rattle.par_file_run_laws.specs.Parts.{Known, first_areas}
use Rattle.par_file_run_laws.specs.LayoutLaws.{NamesAreLaidOut, InitializersStand}
use Rattle.par_file_run_laws.specs.LayoutLaws.{FilesAreLaidOut}
use Rattle.par_file_run_laws.specs.LayoutLaws.{StatesBeginAlike, CodeIsPlaced, BeginsAtMain}
use Rattle.par_file_run_laws.specs.LayoutLaws.{ProgramsBeginAtMain}
use Rattle.par_file_run_laws.specs.LoadedLaws.{ErasedTablesHaveKinds, LoadedFilesAreKnown}
use Rattle.par_file_run_laws.specs.Laws.{AreLoadedFor, main_class, FilesShow, FilesShowWhole}
use Rattle.par_file_run_laws.proofs.Simple.{all_named}
use Rattle.par_file_run_laws.proofs.Fitting.{BodiesFit, code_fits}
use Rattle.par_file_run_laws.proofs.Inputs.{begins_fitting}
use Rattle.par_file_run_laws.proofs.Channels.{inputs_declared}

-- what is proved in the crates below
pub record Parts : Type 0 where
  pub erased : BodiesAreErased
  pub compiled : WellTypedProgramsAreCompiled
  pub texts : WordsAreTexts
  pub placeable : LabelledCodeIsPlaceable
  pub kinds : ErasedTablesHaveKinds
  pub known : LoadedFilesAreKnown
  pub names : NamesAreLaidOut
  pub initializers : InitializersStand
  pub laid_out : FilesAreLaidOut
  pub begin_alike : StatesBeginAlike
  pub placed : CodeIsPlaced
  pub main : ProgramsBeginAtMain
  pub laid : PlacedCodeIsLaid
  pub placed_runs : PlacedCodeRuns
  pub labelled_shows : LabelledCodeShows
  pub plain_shows : PlainRunsShow
  pub plain_fronts : PlainFrontsAreFronts

-- the class of a number has the same name without policies
word_kept : (t : Table) (c : ℕ) → class_word (erased_table t) c ≡ class_word t c
word_kept t c =
    ap (λ (o : Option ClassInfo). of_class o (λ class. class.name))
    (slice_get-map erased_class t.classes c)
    ∙ of_erased (slice_get t.classes c)
  where
    of_erased : (o : Option ClassInfo)
        → of_class (option_map erased_class o) (λ class. class.name)
        ≡ of_class o (λ class. class.name)
    of_erased None = refl
    of_erased (Some class) = refl

module _ (parts : Parts) (t : Table) (all : List Body) (files : List ClassFile)
    (are : AreLoadedFor t all files) where
  -- ---- the program without its policies

  abbrev pub plain : Table
  plain = erased_table t

  abbrev pub plain_bodies : List Body
  plain_bodies = erased_bodies t all

  abbrev pub w : Words
  w = words_of plain

  abbrev pub env : Naming
  env = naming_of files

  abbrev pub lay : Layout
  lay = layout_of files plain plain_bodies

  abbrev pub code : ℕ → ℕ → Labelled
  code = code_at plain plain_bodies files

  abbrev machine : Program
  machine = of_labelled env (labelled_of plain plain_bodies files) (method_name files)

  pub known : Known plain plain_bodies files
  known =
      parts.known plain plain_bodies files are.linkable
      (parts.kinds t are.well_typed.built_in are.well_typed.signed are.well_typed.in_range)
      are.loaded

  pub compiled : IsCompiled env (labelled_of plain plain_bodies files) w lay plain plain_bodies
  compiled =
      parts.compiled t all are.well_typed.one_each are.well_typed.main are.well_typed.proper env
      (labelled_of plain plain_bodies files) w lay (parts.names plain plain_bodies files known)
      (parts.initializers plain plain_bodies files known)
      (parts.laid_out plain plain_bodies files known)

  -- ---- its code stands in the files

  pub bodies_fit : BodiesFit plain plain_bodies
  bodies_fit c i m body there has =
      let texts =
      parts.texts t (all_named plain plain_bodies are.linkable) are.well_typed.few_params in
      let ready =
      parts.placeable t all are.well_typed w texts (asked_in all) m in
      let of =
      found t (asked_in all) (IsReadyBody t w (asked_in all) m) c i body all ready
      (ap (λ (bs : List Body). body_of bs c i) (sym (parts.erased t all are.well_typed.one_each))
      ∙ has) in
      subst (λ (s : TSta). All FitsItem (labelled w m s).items) of.is of.known.placeable.items

  laid : (c m : ℕ) → IsLaid files c m (code c m)
  laid c m =
      let fits = code_fits plain plain_bodies are.linkable bodies_fit files c m in
      parts.laid files known.linked c m (code c m)
      (parts.placed plain plain_bodies files known c m) fits.items fits.simple

  -- ---- a run of the files

  abbrev me : Meth
  me = compiled.main.0

  begin : BeginsAtMain plain plain_bodies files me
  begin =
      parts.main plain plain_bodies files known me compiled.main.1 compiled.main.2 compiled.main.3

  abbrev place : ℕ
  place = lay.method_at plain.main (main_of plain)

  abbrev main_name : Name
  main_name = class_word t t.main

  number_is : class_number files main_name ≡ 0
  number_is =
      ap (class_number files) (sym (word_kept t t.main))
      ∙ begin.class

  module _ (inputs : Inputs) where
    abbrev given : Inputs
    given = fitting (target files main_name) inputs

    abbrev areas : Areas
    areas = first_areas files given.channels

    abbrev from : State
    from = begins machine (lay.number plain.main) place me.many areas

    begins_alike : Begins env w lay plain inputs.channels areas
    begins_alike =
        begins_fitting plain plain_bodies files known main_name inputs
        (parts.begin_alike plain plain_bodies files known inputs.channels)

    runs_shown : ShowsRuns (λ m. run machine m from) (run_of plain plain_bodies inputs.channels)
    runs_shown =
        parts.labelled_shows env (labelled_of plain plain_bodies files) (method_name files) w lay
        plain plain_bodies compiled inputs.channels areas begins_alike

    -- the labelled code begins where the files do
    from_is : begun files code 0 place given ≡ from
    from_is =
        ap (λ (many : ℕ). begins machine 0 place many areas) begin.locals
        ∙ ap (λ (class : ℕ). begins machine class place me.many areas) (sym begin.number)

    run_is : (m : ℕ) → machine_run files main_name given m ≡ run machine m from
    run_is m =
        let fine =
        subst (λ (s : State). IsFine (run machine m s).ending) (sym from_is)
        (runs_shown.never_bad m) in
        ap (λ (class : ℕ). files_run.run files m (start files class given)) number_is
        ∙ parts.placed_runs files code laid 0 place begin.method given m fine
        ∙ ap (run machine m) from_is

    reaches : (n : ℕ) → (m : ℕ) × (m ≤ 16 * n + 16)
        × (machine_run files main_name given m ≡ shown_run (run_of t all inputs.channels n))
    reaches n =
        let r = runs_shown.reach n in (
          r.0,
          r.1,
          run_is r.0 ∙ r.2 ∙ parts.plain_shows t all are.well_typed inputs.channels n,
        )

    fronts : (m : ℕ) → (n : ℕ)
        × IsFrontOf (machine_run files main_name given m) (run_of t all inputs.channels n)
    fronts m =
        let f = runs_shown.front m in
        let front =
        parts.plain_fronts t all are.well_typed inputs.channels f.0 (run machine m from) f.1 in (
          f.0,
          subst (λ (ran : Ran). IsFrontOf ran (run_of t all inputs.channels f.0)) (sym (run_is m))
              front,
        )

    never_bad : (m : ℕ) → IsFine (machine_run files main_name given m).ending
    never_bad m =
        subst (λ (ran : Ran). IsFine ran.ending) (sym (run_is m)) (runs_shown.never_bad m)

pub files_show_by : Parts → FilesShow
unfolding source
files_show_by parts typed files are = record {
  reach = λ inputs fits. reaches parts typed.table (bodies typed.bodies) files are inputs;
  front = λ inputs fits. fronts parts typed.table (bodies typed.bodies) files are inputs;
  never_bad = λ inputs fits. never_bad parts typed.table (bodies typed.bodies) files are inputs;
  channels =
      inputs_declared typed.table (erased_bodies typed.table (bodies typed.bodies)) files
      (known parts typed.table (bodies typed.bodies) files are);
}

-- ---- whole runs

-- equal endings of a machine are equal endings of a program
same_ending : (a b : Ending) → Fine a ≡ Fine b → a ≡ b
same_ending a b e = cc

pub files_show_whole_by : Parts → FilesShowWhole
files_show_whole_by parts typed files are inputs fits n steps ends enough =
    let main = main_class typed in
    let given = fitting (target files main) inputs in
    let reached = (files_show_by parts typed files are).reach inputs fits n in
    let m : ℕ = reached.0 in
    let is : machine_run files main given m ≡ shown_run (source typed inputs n) = reached.2 in
    let few : m ≤ 16 * n + 16 = reached.1 in
    let later = more_instructions files main given m steps (omega (arith, few, enough)) in
    let ended : (machine_run files main given m).ending ≡ Fine Stopped → ⊥ =
    λ stopped. ends (same_ending _ _ (sym (ap (λ (r : Ran). r.ending) is) ∙ stopped)) in
    later.ended ended ∙ is
