-- How files change where class files are written one after another.
use Rattle.std.proofs.Common.{◌≡◌, ◌≢◌, ℕ, zero, suc, ◌+◌, ◌<◌, Bool, false, List, [], ◌∷◌, ◌++◌}
use Rattle.std.proofs.Common.{length, map, take, drop, get_or, Option, Some, None, Result, Ok, Err}
use Rattle.std.proofs.Common.{String, Global, string_bytes, inl, inr, refl, sym, ap, subst, ◌∙◌}
use Rattle.std.proofs.Common.{arith}
use Rattle.std.specs.Prelude.{IsTrue, IfErr, codes}
use Rattle.std.specs.Result.{IsErrAnd}
use Rattle.std.specs.List.{AllByRecursion, IsDistinct}
use Rattle.std.specs.Str.{bytes_eq}
use Rattle.std.proofs.lemmas.Bool.{false≢true}
use Rattle.std.proofs.lemmas.Grind.{common_steps}
use Rattle.std.proofs.lemmas.List.{append_cancel_right, length-append}
use Rattle.std.proofs.lemmas.Map.Keys.{IsDistinct-head, IsDistinct-tail}
use Rattle.std.proofs.lemmas.Slice.Eq.{bytes_eq-Decides}
use Rattle.par_io.specs.declared.outside.WriteFail.{WriteFail}
use Rattle.par_io.specs.Causes.{FolderCounts, Makes, NoneFalls, Rose, Files, ToldBoth, Sets}
use Rattle.par_io.specs.Causes.{StandBut, raised, raised_by}
use Rattle.par_loader.specs.Reads.{Text, class_file}
use Rattle.par_compile.specs.declared.compiled.CompiledClass.{CompiledClass}
use Rattle.par_class_writer.specs.Written.{SetsBut, IsWritten, IsUnwritten, IsCutOff}

abbrev Change : Type 1
Change = Files → Files → Type 0

-- one change behind another, where the files are told
both : (R S T : Change) (old mid new : Option Files)
    → ((a b c : Files) → R a b → S b c → T a c)
    → ToldBoth old mid R → ToldBoth mid new S → ToldBoth old new T
both R S T None None None join r s = tt
both R S T None None (Some c) join r s = absurd s
both R S T None (Some b) new join r s = absurd r
both R S T (Some a) None new join r s = absurd r
both R S T (Some a) (Some b) None join r s = absurd s
both R S T (Some a) (Some b) (Some c) join r s = join a b c r s

-- what a call hands on
pub handed : {A : Type 0} (r : Result A WriteFail) (u : WriteFail) (P : WriteFail → Type 0)
    → IsErrAnd r (λ e. e ≡ u) → P u → IfErr r P
handed (Ok x) u P is h = tt
handed (Err e) u P is h = subst P (sym is) h

-- ---- files of classes that differ

file_apart : (a b : Text) → bytes_eq a b ≡ false → class_file a ≢ class_file b
file_apart a b differ same =
    let is : a ≡ b = append_cancel_right a b (codes ".class") same in
    false≢true (sym differ ∙ (bytes_eq-Decides a b).1 is)

abbrev name_of : CompiledClass → Text
name_of c = c.name

next_apart : (name : Text) (first : List CompiledClass) (next : CompiledClass)
    (rest : List CompiledClass)
    → AllByRecursion (λ y. bytes_eq name y ≡ false) (map name_of (first ++ next ∷ rest))
    → bytes_eq name next.name ≡ false
next_apart name [] next rest h = h.0
next_apart name (c ∷ cs) next rest h = next_apart name cs next rest h.1

-- the files of the first are not that of the next
abbrev AreBefore : List CompiledClass → CompiledClass → Type 0
AreBefore first next = AllByRecursion (λ c. class_file c.name ≢ class_file next.name) first

before_next : (first : List CompiledClass) (next : CompiledClass) (rest : List CompiledClass)
    → IsDistinct bytes_eq (map name_of (first ++ next ∷ rest)) → AreBefore first next
before_next [] next rest h = tt
before_next (c ∷ cs) next rest h =
    let names = map name_of (cs ++ next ∷ rest) in (
      file_apart c.name next.name
          (next_apart c.name cs next rest (IsDistinct-head bytes_eq c.name names h)),
      before_next cs next rest (IsDistinct-tail bytes_eq c.name names h),
    )

-- ---- one file more

module _ (next : CompiledClass) (old mid new : Files) where
  -- files of other classes stand
  still_whole : StandBut (class_file next.name) mid new → (first : List CompiledClass)
      → AreBefore first next
      → AllByRecursion (λ c. mid (class_file c.name) ≡ Some c.bytes) first
      → AllByRecursion (λ c. new (class_file c.name) ≡ Some c.bytes) first
  still_whole stand [] apart h = tt
  still_whole stand (c ∷ cs) apart h =
      (stand (class_file c.name) apart.0 ∙ h.0, still_whole stand cs apart.1 h.1)

  whole_and : (first : List CompiledClass)
      → AllByRecursion (λ c. new (class_file c.name) ≡ Some c.bytes) first
      → new (class_file next.name) ≡ Some next.bytes
      → AllByRecursion (λ c. new (class_file c.name) ≡ Some c.bytes) (first ++ next ∷ [])
  whole_and [] h is = (is, tt)
  whole_and (c ∷ cs) h is = (h.0, whole_and cs h.1 is)

  -- a name that no file of these has is none of the first, and not that of the next
  other_first : (name : Text) (first : List CompiledClass)
      → AllByRecursion (λ c. name ≢ class_file c.name) (first ++ next ∷ [])
      → AllByRecursion (λ c. name ≢ class_file c.name) first × (name ≢ class_file next.name)
  other_first name [] h = (tt, h.0)
  other_first name (c ∷ cs) h =
      let more = other_first name cs h.1 in ((h.0, more.0), more.1)

  one_more : (first : List CompiledClass) → AreBefore first next → SetsBut first [] old mid
      → Sets (class_file next.name) next.bytes mid new → SetsBut (first ++ next ∷ []) [] old new
  one_more first apart sets set = record {
    whole = whole_and first (still_whole set.1 first apart sets.whole) set.0;
    others = λ name other touched.
        let parts = other_first name first other in
        set.1 name parts.1 ∙ sets.others name parts.0 tt;
  }

  one_fails : (first : List CompiledClass) → AreBefore first next → SetsBut first [] old mid
      → StandBut (class_file next.name) mid new
      → SetsBut first (class_file next.name ∷ []) old new
  one_fails first apart sets stand = record {
    whole = still_whole stand first apart sets.whole;
    others = λ name other touched. stand name touched.0 ∙ sets.others name other tt;
  }

-- ---- the names of the files

abbrev file_of : CompiledClass → Text
file_of c = class_file c.name

-- each class has its name at its place
pub name_there : (names : List (String Global)) (classes : List CompiledClass)
    → map string_bytes names ≡ map file_of classes → (i : ℕ) → i < length classes
    → (name : String Global) (c : CompiledClass)
    → string_bytes (get_or names i name) ≡ class_file (get_or classes i c).name
name_there [] [] named i within name c = absurd (omega (arith, within))
name_there [] (c ∷ cs) named i within name d = cc
name_there (n ∷ ns) [] named i within name c = cc
name_there (n ∷ ns) (c ∷ cs) named zero within name d = cc
name_there (n ∷ ns) (c ∷ cs) named (suc i) within name d =
    let behind : map string_bytes ns ≡ map file_of cs = cc in
    name_there ns cs behind i (omega (arith, within)) name d

-- ---- the loop

none_set : (old : Option Files) → ToldBoth old old (SetsBut [] [])
none_set None = tt
none_set (Some m) = record { whole = tt; others = λ name other touched. refl }

-- these are written so far
pub record IsUnderWay (alone : Bool) (first : List CompiledClass) (old held : Option Files)
    (before between : FolderCounts) : Type 0 where
  pub sets : ToldBoth old held (SetsBut first [])
  pub makes : Makes 0 (length first) before between
  pub falls : NoneFalls before between
  pub stand : IsTrue alone → between.faults ≡ before.faults

pub begins : (alone : Bool) (old : Option Files) (before : FolderCounts)
    → IsUnderWay alone [] old old before before
begins alone old before = record {
  sets = none_set old;
  makes = (refl, refl);
  falls = (omega arith, omega arith, omega arith);
  stand = λ only. refl;
}

module _ (classes : List CompiledClass) (i : ℕ) (c : CompiledClass) (within : i < length classes)
    (is : c ≡ get_or classes i c) (apart : IsDistinct bytes_eq (map name_of classes)) where
  split : classes ≡ take i classes ++ c ∷ drop (i + 1) classes
  split = grind (arith, common_steps, is)

  taken : take (i + 1) classes ≡ take i classes ++ c ∷ []
  taken = grind (arith, common_steps, is)

  earlier : AreBefore (take i classes) c
  earlier =
      before_next (take i classes) c (drop (i + 1) classes)
      (subst (λ (cs : List CompiledClass). IsDistinct bytes_eq (map name_of cs)) split apart)

  module _ (alone : Bool) (old held new : Option Files) (before between after : FolderCounts)
      (under : IsUnderWay alone (take i classes) old held before between)
      (falls : NoneFalls between after) where
    no_falls : NoneFalls before after
    no_falls =
        let a = under.falls in
        (omega (arith, a.0, falls.0), omega (arith, a.1, falls.1), omega (arith, a.2, falls.2))

    counts_more : Makes 0 1 between after → Makes 0 (length (take i classes) + 1) before after
    counts_more makes =
        let e : suc (length (take i classes)) ≡ length (take i classes) + 1 = omega arith in (
          makes.0 ∙ under.makes.0,
          makes.1 ∙ ap raised under.makes.1 ∙ ap (λ n. raised_by n before.writes) e,
        )

    -- the file of the next class is written
    pub writes_on : (IsTrue alone → after.faults ≡ between.faults)
        → IsWritten c held new between after
        → IsUnderWay alone (take (i + 1) classes) old new before after
    writes_on stand written =
        let many : length (take i classes) + 1 ≡ length (take i classes ++ c ∷ []) =
        sym (length-append (take i classes) (c ∷ [])) in
        let more : IsUnderWay alone (take i classes ++ c ∷ []) old new before after =
        record {
          sets =
              both (SetsBut (take i classes) []) (Sets (class_file c.name) c.bytes)
              (SetsBut (take i classes ++ c ∷ []) []) old held new
              (λ a b d. one_more c a b d (take i classes) earlier) under.sets written.0;
          makes = subst (λ n. Makes 0 n before after) many (counts_more written.1);
          falls = no_falls;
          stand = λ only. stand only ∙ under.stand only;
        } in
        subst (λ (cs : List CompiledClass). IsUnderWay alone cs old new before after)
        (sym taken) more

    rose_so : Rose between.faults after.faults → Rose before.faults after.faults
    rose_so (inl more) = let a = under.falls.0 in inl (omega (arith, a, more))
    rose_so (inr last) = inr last

    -- it is not
    pub cut_there : (e : WriteFail) → IsUnwritten c held new between after e
        → IsCutOff classes old new before after e
    cut_there WriteFail.Failed unwritten = (
      length (take i classes),
      record {
        first = take i classes;
        next = c;
        rest = drop (i + 1) classes;
        among = split;
        place_is = refl;
        sets =
            both (SetsBut (take i classes) []) (StandBut (class_file c.name))
            (SetsBut (take i classes) (class_file c.name ∷ [])) old held new
            (λ a b d. one_fails c a b d (take i classes) earlier) under.sets unwritten.0;
      },
      counts_more unwritten.1,
      rose_so unwritten.2,
    )
    cut_there WriteFail.Memory unwritten = inr (
      record {
        first = take i classes;
        next = c;
        rest = drop (i + 1) classes;
        among = split;
        sets =
            subst (λ (fs : Option Files). ToldBoth old fs (SetsBut (take i classes) []))
            (sym unwritten.0) under.sets;
      },
      counts_more unwritten.1,
    )
