-- Reading items from left to right: a reader gives a value and the bytes behind it, or why there is
-- none.
use Rattle.std.specs.Prelude.{◌≡◌, ℕ, zero, suc, ◌+◌, List, [], ◌∷◌, length, take, drop, Bool}
use Rattle.std.specs.Prelude.{nat_lt, if◌then◌else◌, Result, Ok, Err}
use Rattle.byteorder.specs.Endian.{big_number}
use Rattle.par_pool.specs.declared.error.ClassError.{ClassError}
use Rattle.par_pool.specs.declared.error.ClassError.TheVariants.{Memory}

-- a value and the bytes behind it, or a refusal
abbrev pub Outcome : Type 0 → Type 0
Outcome A = Result (A × List ℕ) ClassError

abbrev pub Reader : Type 0 → Type 0
Reader A = List ℕ → Outcome A

infixl 10 ◌>>=◌
abbrev pub ◌>>=◌ :
    {A B : Type 0} → Result A ClassError → (A → Result B ClassError) → Result B ClassError
(Ok x) >>= f = f x
(Err e) >>= f = Err e

-- one item, and then another
abbrev pub both : {A B : Type 0} → Reader A → Reader B → Reader (A × B)
both first second bytes = first bytes >>= λ a. second a.1 >>= λ b. Ok ((a.0, b.0), b.1)

-- an item, seen as another value
abbrev pub made : {A B : Type 0} → (A → B) → Reader A → Reader B
made to read bytes = read bytes >>= λ a. Ok (to a.0, a.1)

-- an item that passes a test, or else a refusal that may name the value and its place
abbrev pub tested : {A : Type 0} → (A → Bool) → (A → List ℕ → ClassError) → Reader A → Reader A
tested test fault read bytes = read bytes >>= λ a. if test a.0 then Ok a else Err (fault a.0 bytes)

-- an item that says how the next one is read
abbrev pub keyed : {K A : Type 0} → Reader K → (K → Reader A) → Reader A
keyed key read bytes = key bytes >>= λ k. read k.0 k.1

-- so many items, the first of which has a number that the reader may use
unfoldable pub items : {A : Type 0} → (ℕ → Reader A) → ℕ → ℕ → Reader (List A)
items read zero index bytes = Ok ([], bytes)
items read (suc left) index bytes =
    read index bytes >>= λ a.
    items read left (index + 1) a.1 >>= λ rest. Ok (a.0 ∷ rest.0, rest.1)

-- a byte, or the refusal of bytes that end too early
unfoldable pub u1_at : ClassError → Reader ℕ
u1_at short [] = Err short
u1_at short (byte ∷ rest) = Ok (byte, rest)

-- a number of so many bytes, the highest first
unfoldable pub number_at : ℕ → ClassError → Reader ℕ
number_at n short bytes =
    if nat_lt (length bytes) n then Err short else Ok (big_number n bytes, drop n bytes)

abbrev pub u2_at : ClassError → Reader ℕ
u2_at short = number_at 2 short

abbrev pub u4_at : ClassError → Reader ℕ
u4_at short = number_at 4 short

-- so many bytes
unfoldable pub bytes_at : ClassError → ℕ → Reader (List ℕ)
bytes_at short n bytes =
    if nat_lt (length bytes) n then Err short else Ok (take n bytes, drop n bytes)

-- What a function returned, seen by view, is what reading gives, unless memory ran out.
abbrev pub Fails : {Y : Type 0} → ClassError → Result Y ClassError → Type 0
Fails Memory read = Unit {0}
Fails error read = read ≡ Err error

abbrev pub Gives : {X Y : Type 0} → (X → Y) → Result X ClassError → Result Y ClassError → Type 0
Gives view (Ok x) read = read ≡ Ok (view x)
Gives view (Err e) read = Fails e read
