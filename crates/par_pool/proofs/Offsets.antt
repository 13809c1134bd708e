-- Offsets into a file, by how many bytes are left.
use Rattle.std.proofs.Common.{◌≡◌, ℕ, ◌+◌, ◌-◌, ◌≤◌, List, ◌++◌, length, take, drop, Result, Ok}
use Rattle.std.proofs.Common.{Err, sym, ap, ◌∙◌, append_assoc, length-append, arith}
use Rattle.std.specs.Prelude.{IfOk}
use Rattle.std.proofs.lemmas.List.{drop_at, take-append-drop, get_or-drop}
use Rattle.par_pool.specs.declared.constant.Constant.{Constant}
use Rattle.par_pool.specs.declared.error.ClassError.{ClassError}
use Rattle.par_pool.specs.Reading.{Gives}
use Rattle.par_pool.specs.Spelling.{IsPoolAt}
use Rattle.par_pool.specs.Constants.{pool_at}
use Rattle.par_pool.proofs.Exact.{IsBytes}
use Rattle.par_pool.proofs.Pools.{exact_pool}

-- where so many bytes are left, these are what the bytes from that offset on are
pub offset_of : (bytes text rest : List ℕ) (from : ℕ) → drop from bytes ≡ text ++ rest
    → (length rest ≤ length bytes) × (drop (length bytes - length rest) bytes ≡ rest)
offset_of bytes text rest from e =
    let whole : bytes ≡ (take from bytes ++ text) ++ rest = sym (take-append-drop from bytes)
    ∙ ap (λ (t : List ℕ). take from bytes ++ t) e
    ∙ sym (append_assoc (take from bytes) text rest) in
    let len : length bytes ≡ length (take from bytes ++ text) + length rest =
    ap (λ (t : List ℕ). length t) whole ∙ length-append (take from bytes ++ text) rest in (
      omega (arith, len),
      ap (λ (t : List ℕ). drop (length bytes - length rest) t) whole
          ∙ drop_at (take from bytes ++ text) rest (length bytes - length rest)
          (omega (arith, len)),
    )

-- what is read is a pool that stands there
pub pool_found : {P : Type 0} (entries : P → List Constant) (rest : P → List ℕ) (short : ClassError)
    (bytes : List ℕ) (r : Result P ClassError) → IsBytes bytes
    → Gives {Y = List Constant × List ℕ} (λ p. (entries p, rest p)) r (pool_at short bytes)
    → IfOk r (λ p. IsPoolAt bytes (entries p) (rest p))
pool_found entries rest short bytes (Ok p) fits given =
    let t = (exact_pool short).takes bytes (entries p, rest p) fits given in
    record { is_pool = t.1; spelled = t.0.parts }
pool_found entries rest short bytes (Err e) fits given = tt

-- a pool that stands there is what is read
pub pool_only : (short : ClassError) (bytes : List ℕ) (entries : List Constant) (rest : List ℕ)
    → IsPoolAt bytes entries rest → pool_at short bytes ≡ Ok (entries, rest)
pool_only short bytes entries rest h =
    ap (pool_at short) h.spelled ∙ (exact_pool short).again entries rest h.is_pool

pub pool_bytes : (bytes : List ℕ) (from : ℕ) → IsBytes bytes → IsBytes (drop from bytes)
pool_bytes bytes from h = λ i. rw get_or-drop (h (from + i))
