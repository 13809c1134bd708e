-- Reading a constant pool, with the first refusal from the left.
use Rattle.std.specs.Prelude.{ℕ, ◌+◌, ◌-◌, ◌==◌, not, List, Option, Some, None, position}
use Rattle.std.specs.Prelude.{if◌then◌else◌, Result, Ok, Err}
use Rattle.std.specs.Int.{w32, cast_signed}
use Rattle.par_pool.specs.declared.constant.Constant.{Constant}
use Rattle.par_pool.specs.declared.constant.Constant.TheVariants.{Utf8, Integer, Class, Text, Field}
use Rattle.par_pool.specs.declared.constant.Constant.TheVariants.{Method, NameType}
use Rattle.par_pool.specs.declared.error.ClassError.{ClassError}
use Rattle.par_pool.specs.declared.error.ClassError.TheVariants.{Pool}
use Rattle.par_pool.specs.Spelling.{is_plain, refers}
use Rattle.par_pool.specs.Reading.{Reader, both, made, tested, keyed, items, u1_at, u2_at, u4_at}
use Rattle.par_pool.specs.Reading.{bytes_at, ◌>>=◌}

-- a text, whose bytes are looked at when all of them are there
unfoldable pub text_at : ClassError → ℕ → Reader Constant
text_at short index =
    made Utf8 (tested is_plain (λ _ _. Pool index) (keyed (u2_at short) (bytes_at short)))

-- a number
unfoldable pub integer_at : ClassError → Reader Constant
integer_at short = made (λ n. Integer (cast_signed w32 n)) (u4_at short)

-- an index
unfoldable pub one_at : (ℕ → Constant) → ClassError → Reader Constant
one_at form short = made form (u2_at short)

-- two indices
unfoldable pub two_at : (ℕ → ℕ → Constant) → ClassError → Reader Constant
two_at form short = made (λ pair. form pair.0 pair.1) (both (u2_at short) (u2_at short))

-- what stands behind a tag
abbrev pub behind_tag : ClassError → ℕ → ℕ → Reader Constant
behind_tag short index tag bytes =
    if tag == 1 then text_at short index bytes
    else if tag == 3 then integer_at short bytes
    else if tag == 7 then one_at Class short bytes
    else if tag == 8 then one_at Text short bytes
    else if tag == 9 then two_at Field short bytes
    else if tag == 10 then two_at Method short bytes
    else if tag == 12 then two_at NameType short bytes
    else Err (Pool index)

-- the constant of an index
unfoldable pub constant_at : ClassError → ℕ → Reader Constant
constant_at short index = keyed (u1_at short) (behind_tag short index)

-- the place of the first constant that has an index of the wrong kind
abbrev pub first_astray : List Constant → Option ℕ
first_astray entries = position (λ constant. not (refers entries constant)) entries

-- constants are a pool where each of their indices is of the right kind
abbrev pub checked : List Constant → List ℕ → Option ℕ → Result (List Constant × List ℕ) ClassError
checked entries rest None = Ok (entries, rest)
checked entries rest (Some place) = Err (Pool (place + 1))

-- the constants behind their number, which is one more than there are
abbrev pub counted : ClassError → ℕ → Reader (List Constant)
counted short n bytes = if n == 0 then Err (Pool 0) else items (constant_at short) (n - 1) 1 bytes

-- a constant pool
unfoldable pub pool_at : ClassError → Reader (List Constant)
pool_at short bytes =
    keyed (u2_at short) (counted short) bytes >>= λ read.
    checked read.0 read.1 (first_astray read.0)
