-- Numbers in range: policies and locks are below 256, and locals are those of the method.
use Rattle.std.specs.Prelude.{ℕ, suc, ◌<◌, ◌≤◌, cond, IsTrue, All, length}
use Rattle.par_typed.specs.par_bits.Sets.{Set}
use Rattle.par_typed.specs.Plain.{Body}
use Rattle.par_program_laws.specs.Declares.{Declares, Method}
use Rattle.par_program_laws.specs.Rules.{From, Entry, After, Tested, Raised, Opened, Shut, Assigned}
use Rattle.par_program_laws.specs.Rules.{Worth, Given, Held, Value}
use Rattle.par_program_laws.specs.Rules.{Node, node, Rules, Done, Part, Test, Heads, Leaves, Worths}
use Rattle.par_program_laws.specs.Body.{sta}
use Rattle.par_program_laws.specs.Numbered.{IsNumbered}

-- how many policies a table has at most, and how many ground locks
abbrev pub MOST : ℕ
MOST = 256

abbrev pub AreLocks : Set → Type 0
AreLocks locks = (n : ℕ) → IsTrue (locks n) → n < MOST

module _ (locals : ℕ) where
  unfoldable pub IsFromInRange : From → Type 0
  IsFromInRange Entry = Unit {0}
  IsFromInRange (After part k) = Unit {0}
  IsFromInRange (Tested part from) = IsFromInRange from
  IsFromInRange (Raised policy from) = (policy < MOST) × IsFromInRange from
  IsFromInRange (Opened locks from) = AreLocks locks × IsFromInRange from
  IsFromInRange (Shut locks from) = AreLocks locks × IsFromInRange from
  IsFromInRange (Assigned x part from) = (x < locals) × IsFromInRange from

  abbrev pub IsWorthInRange : Worth → Type 0
  IsWorthInRange (Given policy) = policy < MOST
  IsWorthInRange (Held x) = x < locals
  IsWorthInRange (Value part) = Unit {0}

  unfoldable mutual
    pub IsInRange : Node → Type 0
    IsInRange (node p rules) = AreInRange rules

    pub AreInRange : Rules → Type 0
    AreInRange Done = Unit {0}
    AreInRange (Part from absorber part more) =
        IsFromInRange from × IsInRange part × AreInRange more
    AreInRange (Test part more) = IsInRange part × AreInRange more
    AreInRange (Heads from more) = IsFromInRange from × AreInRange more
    AreInRange (Leaves from kind more) = IsFromInRange from × AreInRange more
    AreInRange (Worths v more) = IsWorthInRange v × AreInRange more

-- the locals that a method has from its call: `this` in an instance method, and its parameters
abbrev pub arrivals : Method → ℕ
arrivals m = cond m.is_static (length m.params) (suc (length m.params))

-- what a typed body promises: its nodes are numbered, and all numbers are in range
pub record IsOrderly (declared : Declares) (locals : ℕ) (b : Body) : Type 0 where
  pub numbered : IsNumbered 0 (sta declared b.body)
  pub in_range : IsInRange locals (sta declared b.body)
  pub params : All (λ p. p < MOST) (declared.method b.class b.method).params
  pub arrive : arrivals (declared.method b.class b.method) ≤ locals
  pub expects : AreLocks (declared.method b.class b.method).expects
