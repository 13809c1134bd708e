-- What a machine begins with agrees with what the program begins with.
use Rattle.std.proofs.Common.{◌≡◌, ℕ, zero, suc, ◌+◌, ◌<◌, true, List, [], length}
use Rattle.std.proofs.Common.{slice_get, replicate, refl, sym, ap, arith}
use Rattle.std.proofs.lemmas.Bool.{ltb-true}
use Rattle.std.proofs.lemmas.Option.{slice_get_within}
use Rattle.par_typed.specs.declared.ty.Ty.TheVariants as ty
use Rattle.par_typed.specs.declared.table.Table.{Table}
use Rattle.par_typed.specs.Plain.{Body}
use Rattle.par_class.specs.declared.file.ClassFile.{ClassFile}
use Rattle.par_values.specs.declared.inputs.ChannelInput.{ChannelInput}
use Rattle.par_values.specs.declared.value.MVal.{MVal}
use Rattle.par_values.specs.Areas.{list_or_none}
use Rattle.par_run_laws.specs.Source.{given_to, start}
use Rattle.par_match_laws.specs.par_step_laws.State.{no_objects}
use Rattle.par_match_laws.proofs.par_step_laws.Placing.{locks_stand}
use Rattle.par_code_form.specs.Named.{words_of}
use Rattle.par_match_laws.specs.Naming.{naming_of}
use Rattle.par_source_code_laws.specs.par_evaluation_laws.Laid.{IsMade}
use Rattle.par_source_code_laws.specs.par_evaluation_laws.Agreement.{Fine}
use Rattle.par_file_run_laws.specs.Layout.{LOCKS, number_of, layout_of}
use Rattle.par_file_run_laws.specs.Parts.{first_areas}
use Rattle.par_file_run_laws.specs.Parts.{Known}
use Rattle.par_file_run_laws.proofs.Known.{number-is}
use Rattle.par_file_run_laws.proofs.Held.{made-here, input-here, input-in}
use Rattle.par_file_run_laws.proofs.Laid.{static-first, static-typed, channel-there}

none-of : (A : Type 0) (many n : ℕ) (none : List A) → none ≡ []
    → length (list_or_none (slice_get (replicate many none) n)) ≡ 0
none-of A zero n none is = refl
none-of A (suc many) zero none is = ap (λ (xs : List A). length xs) is
none-of A (suc many) (suc n) none is = none-of A many n none is

many-are : {A : Type 0} (many : ℕ) (x : A) → length (replicate many x) ≡ many
many-are zero x = refl
many-are (suc many) x = ap suc (many-are many x)

module _ (table : Table) (bodies : List Body) (files : List ClassFile)
    (known : Known table bodies files) (lines : List ChannelInput) where
  within : (c : ℕ) → IsMade (layout_of files table bodies) c
      → number_of files table c < length (no_objects files)
  within c made =
      let at = made-here table bodies files known c made in
      let less = slice_get_within files at.0 at.1.file at.1.listed in
      let here = number-is table bodies files known c at.0 at.1 in
      let many = many-are {A = List (List MVal)} (length files + 2) [] in
      omega (arith, less, here, many)

  pub begins : Fine (naming_of files) (words_of table) (layout_of files table bodies) table
      (λ x. ty.Void) 0 (λ c. 0) [] (start table lines) (first_areas files lines)
  begins = record {
    size = refl;
    locals_are = λ x is. absurd (cc is);
    statics_are = λ c f t has. (
      static-first table bodies files known c f t has,
      static-typed table bodies files known c f t (λ d. 0) has,
    );
    many_are = λ c made. none-of (List MVal) (length files + 2) (number_of files table c) [] refl;
    there = within;
    fields_are = λ c n f t has made less. absurd (omega arith);
    grown = λ c. omega arith;
    locks_are = λ l is. (locks_stand files l (ltb-true l LOCKS is)).closed;
    inputs_are = λ c k has.
        let at = input-here table bodies files known c k has in
        sym (ap (given_to lines) (channel-there table bodies files known c at.0 at.1 k true
        (input-in table bodies files known c k has at.0 at.1)));
  }
