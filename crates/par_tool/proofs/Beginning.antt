-- The class files that are linked, as what a machine begins with.
use Rattle.std.proofs.Common.{◌≡◌, ℕ, zero, suc, ◌+◌, ◌<◌, ◌≤◌, Bool, true, false, not, ◌||◌, cond}
use Rattle.std.proofs.Common.{nat_lt, List, [], ◌∷◌, ◌++◌, length, slice_get, Option, Some, None}
use Rattle.std.proofs.Common.{IsSome, IsTrue, refl, sym, ap, subst, ◌∙◌, arith}
use Rattle.std.specs.List.{list_any, prefix_len, position, position_or_len}
use Rattle.std.specs.Str.{bytes_eq}
use Rattle.std.proofs.lemmas.Bool.{and_parts, false≢true}
use Rattle.std.proofs.lemmas.Bool.Decides.{nat_tests}
use Rattle.std.proofs.lemmas.List.{length-append}
use Rattle.std.proofs.lemmas.List.Sums.{position_or_len_is}
use Rattle.std.proofs.lemmas.Slice.Eq.{bytes_eq-Decides}
use Rattle.par_io.specs.Causes.{Files}
use Rattle.par_lexer.specs.par_base.Names.{is_name}
use Rattle.par_class.specs.declared.file.MethodFile.{MethodFile}
use Rattle.par_class.specs.declared.file.ClassFile.{ClassFile}
use Rattle.par_single.specs.Members.{own_name, is_static, is_method_of}
use Rattle.par_single.specs.Described.{main_member}
use Rattle.par_step_laws.specs.Run.{class_number}
use Rattle.par_step_laws.specs.State.{main_place}
use Rattle.par_loader.specs.Reads.{Text, Classes}
use Rattle.par_loader.specs.Mentions.{Naming, next_named}
use Rattle.par_loader.specs.Found as found
use Rattle.par_loader.specs.Found.{Found, found_in}
use Rattle.par_loader.specs.Loaded.{refused, Load, Step, goes_on, ends, step, step_of, main_step}
use Rattle.par_loader.specs.Loaded.{main_step_of, after, with_next, further}
use Rattle.par_loader.specs.Judged.{is_main, has_main, judged}
use Rattle.par_tool.specs.Classes.{AreLinked}

-- ---- the class that is asked for comes first

pub first_number : (files : List ClassFile) (file : ClassFile) (main : Text)
    → slice_get files 0 ≡ Some file → own_name file ≡ main → class_number files main ≡ 0
first_number [] file main is own = absurd (cc is)
first_number (f ∷ files) file main is own =
    let same : f ≡ file = cc in
    let named : bytes_eq (own_name f) main ≡ true =
    (bytes_eq-Decides (own_name f) main).1 (ap own_name same ∙ own) in
    position_or_len_is (λ (g : ClassFile). bytes_eq (own_name g) main) (f ∷ files) 0 f (omega arith)
    (λ k below. absurd (omega (arith, below))) (λ inside. named)

-- ---- its class has a method to begin with

below : (p q : MethodFile → Bool) → ((m : MethodFile) → p m ≡ true → q m ≡ true)
    → (ms : List MethodFile) → list_any p ms ≡ true → prefix_len (λ m. not (q m)) ms < length ms
below p q each [] some = absurd (false≢true some)
below p q each (m ∷ ms) some = in_case (below p q each ms) (q m) refl (p m) refl some
  where
    in_case : (list_any p ms ≡ true → prefix_len (λ n. not (q n)) ms < length ms) → (b : Bool)
        → q m ≡ b → (c : Bool) → p m ≡ c → (c || list_any p ms) ≡ true
        → cond (not b) (1 + prefix_len (λ n. not (q n)) ms) 0 < length (m ∷ ms)
    in_case rest true e c f h = omega arith
    in_case rest false e true f h = absurd (false≢true (sym e ∙ each m f))
    in_case rest false e false f h = let less = rest h in omega (arith, less)

any_place : (p q : MethodFile → Bool) → ((m : MethodFile) → p m ≡ true → q m ≡ true)
    → (ms : List MethodFile) → list_any p ms ≡ true → IsSome (position q ms)
any_place p q each ms some =
    let less = below p q each ms some in
    let passes : nat_lt (position_or_len q ms) (length ms) ≡ true =
    grind (arith, nat_tests, less) in
    subst (λ b. IsSome (cond b (Some (position_or_len q ms)) None)) (sym passes) refl

pub begins_there : (file : Option ClassFile) → IsTrue (has_main file) → IsSome (main_place file)
begins_there None begun = absurd (false≢true begun)
begins_there (Some file) begun =
    any_place (is_main file.pool.entries)
    (is_method_of file.pool.entries (main_member (own_name file)))
    (λ m both. (and_parts (is_static m.access)
    (is_method_of file.pool.entries (main_member []) m) both).1) file.methods begun

-- ---- few files are asked for

-- a step ends after one read or none
abbrev AtMostOne : Step → Type 0
AtMostOne (goes_on f) = Unit {0}
AtMostOne (ends reads end) = reads ≤ 1

of_found : (m : Naming) (f : Found) → AtMostOne (step_of m f)
of_found m (found.file f) = tt
of_found m found.nothing = omega arith
of_found m found.overlong = omega arith
of_found m found.another = omega arith
of_found m (found.broken number value) = omega arith

of_step : (m : Naming) (bytes : Option Text) (named : Bool)
    → AtMostOne (cond named (step_of m (found_in m.name bytes))
    (ends 0 (refused m.class 40 m.index)))
of_step m bytes true = of_found m (found_in m.name bytes)
of_step m bytes false = omega arith

of_main : (main : Text) (f : Found) → AtMostOne (main_step_of main f)
of_main main found.nothing = omega arith
of_main main (found.file f) = tt
of_main main found.overlong = omega arith
of_main main found.another = omega arith
of_main main (found.broken number value) = omega arith

module _ (classes : Classes) (more : ℕ) (fs : List ClassFile)
    (rest : (gs : List ClassFile) → (further classes more gs).reads ≤ length gs + more) where
  stepped : (s : Step) → AtMostOne s
      → (after fs (further classes more) s).reads ≤ length fs + suc more
  stepped (goes_on f) few =
      let next = rest (fs ++ f ∷ []) in
      let longer : length (fs ++ f ∷ []) ≡ length fs + 1 = length-append fs (f ∷ []) in
      omega (arith, next, longer)
  stepped (ends reads end) few = omega (arith, few)

  named : (o : Option Naming) → (with_next classes fs (further classes more) o).reads
      ≤ length fs + suc more
  named None = omega arith
  named (Some m) = stepped (step m (classes m.name)) (of_step m (classes m.name) (is_name m.name))

few_further : (classes : Classes) (more : ℕ) (fs : List ClassFile)
    → (further classes more fs).reads ≤ length fs + more
unfolding further
few_further classes zero fs = omega arith
few_further classes (suc more) fs = named classes more fs (few_further classes more) (next_named fs)

pub few_judged : (classes : Classes) (main : Text) → (judged classes main).reads ≤ 129
few_judged classes main =
    let few =
    stepped classes 128 [] (few_further classes 128) (main_step main (classes main))
    (of_main main (found_in main (classes main))) in
    omega (arith, few)

pub few_linked : (files : Option Files) (main : Text) (reads : ℕ) (all : List ClassFile)
    → AreLinked files main reads all → reads ≤ 129
few_linked files main reads all h =
    let few = few_judged h.classes main in
    let same : (judged h.classes main).reads ≡ reads = ap (λ (l : Load). l.reads) h.links in
    omega (arith, few, same)
