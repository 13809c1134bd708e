-- Counts of reads, one job after another.
use Rattle.std.proofs.Common.{◌≡◌, ◌∙◌, ap, ℕ, zero, suc, ◌+◌, ◌≤◌, refl, subst, inl, inr, arith}
use Rattle.par_io.specs.Causes.{FolderCounts, Makes, NoneFalls, Rose, raised, raised_by}
use Rattle.par_loader.specs.Reads.{MakesAtMost, FailsWithin}

-- a count that rises later has risen
pub rose_since : (a b c : ℕ) → a ≤ b → Rose b c → Rose a c
rose_since a b c up (inl less) = inl (omega (arith, up, less))
rose_since a b c up (inr last) = inr last

raised_sum : (more first count : ℕ)
    → raised_by more (raised_by first count) ≡ raised_by (more + first) count
raised_sum zero first count =
    let e : first ≡ zero + first = omega arith in ap (λ n. raised_by n count) e
raised_sum (suc more) first count =
    let e : suc (more + first) ≡ suc more + first = omega arith in
    ap raised (raised_sum more first count) ∙ ap (λ n. raised_by n count) e

pub makes_both : (first more : ℕ) (before between after : FolderCounts)
    → Makes first 0 before between → Makes more 0 between after
    → Makes (more + first) 0 before after
makes_both first more before between after one other =
    (other.0 ∙ ap (raised_by more) one.0 ∙ raised_sum more first before.reads, other.1 ∙ one.1)

pub falls_never : (counts : FolderCounts) → NoneFalls counts counts
falls_never counts = (omega arith, omega arith, omega arith)

pub none_falls : (before between after : FolderCounts) → NoneFalls before between
    → NoneFalls between after → NoneFalls before after
none_falls before between after one other =
    (omega (arith, one.0, other.0), omega (arith, one.1, other.1), omega (arith, one.2, other.2))

pub makes_none : (counts : FolderCounts) → Makes 0 0 counts counts
makes_none counts = (refl, refl)

pub at_most : (reads most : ℕ) (before after : FolderCounts) → reads ≤ most
    → Makes reads 0 before after → MakesAtMost most 0 before after
at_most reads most before after few makes =
    record { read = reads; written = 0; few_reads = few; few_writes = omega arith; makes = makes }

-- no write is among none
pub most_both : (first more most : ℕ) (before between after : FolderCounts) → first + more ≤ most
    → Makes first 0 before between → MakesAtMost more 0 between after
    → MakesAtMost most 0 before after
most_both first more most before between after few makes rest =
    let none : rest.written ≡ 0 = omega (arith, rest.few_writes) in
    let here : Makes rest.read 0 between after =
    subst (λ n. Makes rest.read n between after) none rest.makes in
    at_most (rest.read + first) most before after (omega (arith, few, rest.few_reads))
    (makes_both first rest.read before between after makes here)

-- a read that fails behind others
pub fails_both : (first more most : ℕ) (before between after : FolderCounts) → first + more ≤ most
    → Makes first 0 before between → NoneFalls before between → FailsWithin more between after
    → FailsWithin most before after
fails_both first more most before between after few makes falls h =
    let within = h.within in
    let e : suc h.earlier + first ≡ suc (h.earlier + first) = omega arith in
    record {
      earlier = h.earlier + first;
      within = omega (arith, few, within);
      makes =
          subst (λ n. Makes n 0 before after) e
          (makes_both first (suc h.earlier) before between after makes h.makes);
      rose = rose_since before.faults between.faults after.faults falls.0 h.rose;
    }

pub more_fails : (some all : ℕ) (before after : FolderCounts) → some ≤ all
    → FailsWithin some before after → FailsWithin all before after
more_fails some all before after less h =
    let within = h.within in
    record {
      earlier = h.earlier;
      within = omega (arith, less, within);
      makes = h.makes;
      rose = h.rose;
    }

pub more_reads : (some all : ℕ) (before after : FolderCounts) → some ≤ all
    → MakesAtMost some 0 before after → MakesAtMost all 0 before after
more_reads some all before after less h =
    let few = h.few_reads in
    record {
      read = h.read;
      written = h.written;
      few_reads = omega (arith, less, few);
      few_writes = h.few_writes;
      makes = h.makes;
    }
