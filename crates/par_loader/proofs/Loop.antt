-- Loading as a loop goes on.
use Rattle.std.proofs.Common.{◌≡◌, ℕ, zero, suc, ◌+◌, ◌-◌, ◌<◌, ◌≤◌, List, [], ◌∷◌, ◌++◌, length}
use Rattle.std.proofs.Common.{slice_get, Option, Some, None, Result, Ok, Err, IsErrAnd, refl, sym}
use Rattle.std.proofs.Common.{ap, subst, ◌∙◌, arith}
use Rattle.std.proofs.lemmas.List.{length-append}
use Rattle.std.proofs.lemmas.List.Elements.{All-push, All-weaker}
use Rattle.std.specs.List.{All}
use Rattle.par_io.specs.Causes.{FolderCounts, Makes, NoneFalls, Files}
use Rattle.par_class.specs.declared.file.ClassFile.{ClassFile}
use Rattle.par_single.specs.Members.{own_name}
use Rattle.par_loader.specs.declared.error.Unloaded.{Unloaded}
use Rattle.par_loader.specs.declared.error.Unloaded.TheVariants.{Memory}
use Rattle.par_loader.specs.declared.read_files.Loading.{Loading}
use Rattle.par_loader.specs.Reads.{Text, WasFound, IsSpelled}
use Rattle.par_loader.specs.Mentions.{Naming, next_named}
use Rattle.par_loader.specs.Loaded.{Loaded, whole, Load, asked, behind_first, step}
use Rattle.par_loader.specs.Loaded.{loaded}
use Rattle.par_loader.specs.Ends.{IsRead, Steps, Unended, comes_to, Loads}
use Rattle.par_loader.proofs.Counting.{makes_both, at_most, none_falls, falls_never, makes_none}
use Rattle.par_loader.proofs.SoFar.{IsSoFar, begun, gone_on, ended, now, now_of, asks}
use Rattle.par_loader.proofs.SoFar.{none_left, all_read}
use Rattle.par_loader.proofs.Ended.{ended_all}

-- So many files were read, all but the first by reads that were made since then.
pub record IsLoading (files : Option Files) (file : ClassFile) (fs : List ClassFile) (count : ℕ)
    (before now : FolderCounts) : Type 0 where
  pub reads : ℕ
  pub counted : count ≡ suc reads
  pub many : length fs ≡ count
  pub few : count ≤ 129
  pub makes : Makes reads 0 before now
  pub falls : NoneFalls before now
  pub read : All (IsRead files) fs
  pub first : slice_get fs 0 ≡ Some file
  pub so_far : IsSoFar files (own_name file) fs (129 - count)

one_read : (files : Option Files) (f : ClassFile) → IsRead files f → All (IsRead files) (f ∷ [])
one_read files f h zero d within = h
one_read files f h (suc n) d within = absurd (omega arith)

-- files that were read are spelled by what was read
pub all_spelled : (files : Option Files) (fs : List ClassFile) → All (IsRead files) fs
    → All IsSpelled fs
all_spelled files fs =
    All-weaker (IsRead files) IsSpelled (λ f read. (read.bytes, read.spells)) fs

same_first : (fs : List ClassFile) (f first : ClassFile) → slice_get fs 0 ≡ Some first
    → slice_get (fs ++ f ∷ []) 0 ≡ Some first
same_first [] f first is = absurd (cc is)
same_first (x ∷ xs) f first is = is

pub begins : (files : Option Files) (f : ClassFile) (fs : List ClassFile) (counts : FolderCounts)
    → IsRead files f → fs ≡ f ∷ [] → IsLoading files f fs 1 counts counts
begins files f fs counts read is = record {
  reads = 0;
  counted = refl;
  many = ap length is;
  few = omega arith;
  makes = makes_none counts;
  falls = falls_never counts;
  read = subst (All (IsRead files)) (sym is) (one_read files f read);
  first = ap (λ (xs : List ClassFile). slice_get xs 0) is;
  so_far =
      subst (λ (xs : List ClassFile). IsSoFar files (own_name f) xs 128) (sym is)
      (begun files f read);
}

module _ (files : Option Files) (file : ClassFile) (fs : List ClassFile) (count : ℕ)
    (before between after : FolderCounts) (h : IsLoading files file fs count before between)
    (left : count < 129) (m : Naming) (next : next_named fs ≡ Some m) where
  abbrev main : Text
  main = own_name file

  more_left : 129 - count ≡ suc (129 - (count + 1))
  more_left = omega (arith, left)

  so_far : IsSoFar files main fs (suc (129 - (count + 1)))
  so_far = subst (IsSoFar files main fs) more_left h.so_far

  pub goes : (f : ClassFile) (all : List ClassFile)
      → ((o : Option Text) × WasFound files m.name o × Steps (step m o) between after (Ok f))
      → own_name f ≡ m.name → IsRead files f
      → NoneFalls between after → all ≡ fs ++ f ∷ []
      → IsLoading files file all (count + 1) before after
  goes f all stepped own read falls is =
      let longer : length (fs ++ f ∷ []) ≡ length fs + 1 = length-append fs (f ∷ []) in
      record {
        reads = 1 + h.reads;
        counted = let c = h.counted in omega (arith, c);
        many = ap length is ∙ longer ∙ ap (λ n. n + 1) h.many;
        few = omega (arith, left);
        makes = makes_both h.reads 1 before between after h.makes stepped.2.1;
        falls = none_falls before between after h.falls falls;
        read =
            subst (All (IsRead files)) (sym is) (All-push (IsRead files) fs f h.read read);
        first = ap (λ (xs : List ClassFile). slice_get xs 0) is ∙ same_first fs f file h.first;
        so_far = subst (λ (xs : List ClassFile). IsSoFar files main xs (129 - (count + 1))) (sym is)
            (gone_on files main fs (129 - (count + 1)) m stepped.0 so_far next stepped.1 f
            stepped.2.0 own);
      }

  pub fails : (e : Unloaded)
      → ((o : Option Text) × WasFound files m.name o × Steps (step m o) between after (Err e))
      → Loads files main before after (Err e)
  fails e stepped =
      let o = stepped.0 in
      let was = stepped.1 in
      let known = now files main fs (129 - (count + 1)) m o so_far next was in
      let all = asks files main fs (129 - (count + 1)) m o so_far next was in
      let counted = h.counted in
      let many = h.many in (
        known,
        now_of files main fs (129 - (count + 1)) m o so_far next was,
        ended_all (step m o) (loaded known main) h.reads (behind_first (loaded known main)) before
            between after
            (λ reads end is.
            let same : length fs + reads ≡ suc (reads + h.reads) = omega (arith, counted, many) in
            ended files main fs (129 - (count + 1)) m o so_far next was reads end is
            ∙ ap (λ (n : ℕ). load_of n end) same)
            (omega (arith, counted, many, all)) h.makes h.falls e stepped.2,
      )
    where
      load_of : ℕ → Loaded → Load
      load_of reads end = record { reads = reads; end = end }

  -- memory is wanting for a file that was read
  pub lacks : (f : ClassFile) (r : Result Loading Unloaded)
      → ((o : Option Text) × WasFound files m.name o × Steps (step m o) between after (Ok f))
      → IsErrAnd r (λ e. e ≡ Memory)
      → Loads files main before after r
  lacks f (Ok loading) stepped is = absurd is
  lacks f (Err e) stepped is =
      let o = stepped.0 in
      let was = stepped.1 in
      let known = now files main fs (129 - (count + 1)) m o so_far next was in
      let load = loaded known main in
      let one = ap asked stepped.2.0 in
      let all = asks files main fs (129 - (count + 1)) m o so_far next was in
      let counted = h.counted in
      let many = h.many in (
        known,
        now_of files main fs (129 - (count + 1)) m o so_far next was,
        subst (λ (x : Unloaded). Unended (comes_to load) (behind_first load) before after x)
            (sym is)
            (at_most (1 + h.reads) (behind_first load) before after
            (omega (arith, counted, many, one, all))
            (makes_both h.reads 1 before between after h.makes stepped.2.1)),
      )

module _ (files : Option Files) (file : ClassFile) (loading : Loading) (count : ℕ)
    (before after : FolderCounts) (h : IsLoading files file loading.files count before after) where
  same_count : length loading.files ≡ suc h.reads
  same_count = h.many ∙ h.counted

  load_of : ℕ → Load
  load_of reads = record { reads = reads; end = whole loading.files }

  -- nothing more is named
  pub ends_named : next_named loading.files ≡ None
      → Loads files (own_name file) before after (Ok loading)
  unfolding load_of
  ends_named none = (
    h.so_far.classes,
    h.so_far.of,
    (
      h.reads,
      h.makes,
      none_left files (own_name file) loading.files (129 - count) h.so_far none
          ∙ ap load_of same_count,
      same_count,
    ),
  )

  -- no more is read
  pub ends_read : 129 ≤ count → Loads files (own_name file) before after (Ok loading)
  unfolding load_of
  ends_read all =
      let done : 129 - count ≡ 0 = omega (arith, all) in
      let last : IsSoFar files (own_name file) loading.files 0 =
      subst (IsSoFar files (own_name file) loading.files) done h.so_far in (
        last.classes,
        last.of,
        (
          h.reads,
          h.makes,
          all_read files (own_name file) loading.files last ∙ ap load_of same_count,
          same_count,
        ),
      )
