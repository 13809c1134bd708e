-- The machine reads what the program reads: the lines for channels of loaded files.
use Rattle.std.proofs.Common.{◌≡◌, ℕ, suc, Bool, true, cond, ◌&&◌, List, [], sym, ap, ◌∙◌, codes}
use Rattle.std.specs.List.{list_any}
use Rattle.std.specs.Str.{bytes_eq}
use Rattle.std.proofs.lemmas.Bool.{and_from}
use Rattle.par_typed.specs.declared.ty.Ty.TheVariants as ty
use Rattle.par_typed.specs.declared.table.Table.{Table}
use Rattle.par_typed.specs.Plain.{Body}
use Rattle.par_class.specs.declared.file.ClassFile.{ClassFile}
use Rattle.par_class.specs.declared.file.MethodFile.{MethodFile}
use Rattle.par_class.specs.Spelling.{is_native}
use Rattle.par_values.specs.declared.inputs.Inputs.{Inputs}
use Rattle.par_values.specs.Areas.{Name}
use Rattle.par_secrecy.specs.Target.{fitting}
use Rattle.par_secrecy.proofs.Fitting.{fitting_gives_the_same}
use Rattle.par_run_laws.specs.Source.{start}
use Rattle.par_single.specs.Members.{text_at, own_name, is_static}
use Rattle.par_code_laws.specs.par_link.Inputs.{is_input_of, has_input_in, has_input}
use Rattle.par_code_laws.proofs.par_link.Passing.{any-at}
use Rattle.par_code_laws.specs.par_step_laws.Target.{target}
use Rattle.par_code_form.specs.Named.{class_word, words_of}
use Rattle.par_compile_laws.specs.Members.{channel}
use Rattle.par_placed_run_laws.specs.par_match_laws.Naming.{naming_of}
use Rattle.par_code_laws.specs.par_evaluation_laws.Laid.{IsInput}
use Rattle.par_code_laws.specs.par_evaluation_laws.Agreement.{Fine}
use Rattle.par_file_run_laws.specs.Layout.{layout_of}
use Rattle.par_file_run_laws.specs.Parts.{Known, first_areas}
use Rattle.par_file_run_laws.proofs.Texts.{text-said, text-itself}
use Rattle.par_file_run_laws.proofs.Known.{own-said}
use Rattle.par_file_run_laws.proofs.Callees.{there, channel-at}
use Rattle.par_file_run_laws.proofs.Held.{input-here, input-in}
use Rattle.par_file_run_laws.proofs.LoadedChannels.{name-word}

module _ (table : Table) (bodies : List Body) (files : List ClassFile)
    (known : Known table bodies files) where
  -- an input channel that is laid out is one of the files
  has_laid : (c k : ℕ) → IsInput (layout_of files table bodies) c k
      → has_input files (class_word table c) ((words_of table).channel c k) ≡ true
  has_laid c k laid =
      let at = input-here table bodies files known c k laid in
      let s = at.1 in
      let is = input-in table bodies files known c k laid at.0 s in
      let m = channel is.info in
      let here =
      there table bodies files known c at.0 s (suc k) m
      (channel-at table bodies c s.class k is.info is.has) in
      let x : MethodFile = here.item in
      let entries = s.file.pool.entries in
      let class = class_word table c in
      let name = (words_of table).channel c k in
      let flags : (is_native x.access && is_static x.access) ≡ true =
      ap (λ (access : ℕ). is_native access && is_static access) here.related.access in
      let said_type = text-said entries x.descriptor m.descriptor here.related.descriptor_is in
      let gives : bytes_eq (text_at entries x.descriptor) (codes "()I") ≡ true =
      ap (λ (of_type : Name). bytes_eq of_type (codes "()I")) said_type
      ∙ ap (λ (b : Bool). bytes_eq (cond b (codes "()I") (codes "(I)V")) (codes "()I")) is.kind in
      let said_name =
      text-said entries x.name m.name here.related.name
      ∙ sym (name-word table bodies files known c at.0 s k true is) in
      let named : bytes_eq (text_at entries x.name) name ≡ true =
      ap (λ (n : Name). bytes_eq n name) said_name ∙ text-itself name in
      let own : bytes_eq (own_name s.file) class ≡ true =
      ap (λ (n : Name). bytes_eq n class) (own-said table bodies files known c at.0 s)
      ∙ text-itself class in
      let passes = and_from _ _ (and_from _ _ flags gives) named in
      let among = any-at (is_input_of entries name) s.file.methods (suc k) x here.stands passes in
      any-at (has_input_in class name) files at.0 s.file s.listed
      (and_from (bytes_eq (own_name s.file) class)
      (list_any (is_input_of entries name) s.file.methods) own among)

  -- so a machine that is handed no other lines begins as the program does with all of them
  pub begins_fitting : (main : Name) (inputs : Inputs)
      → Fine (naming_of files) (words_of table) (layout_of files table bodies) table (λ x. ty.Void)
      0 (λ c. 0) [] (start table inputs.channels) (first_areas files inputs.channels)
      → Fine (naming_of files) (words_of table) (layout_of files table bodies) table (λ x. ty.Void)
      0 (λ c. 0) [] (start table inputs.channels)
      (first_areas files (fitting (target files main) inputs).channels)
  begins_fitting main inputs all = record {
    size = all.size;
    locals_are = all.locals_are;
    statics_are = all.statics_are;
    many_are = all.many_are;
    there = all.there;
    fields_are = all.fields_are;
    grown = all.grown;
    locks_are = all.locks_are;
    inputs_are = λ c k laid.
        fitting_gives_the_same (target files main) inputs (class_word table c)
        ((words_of table).channel c k) (has_laid c k laid)
        ∙ all.inputs_are c k laid;
  }
