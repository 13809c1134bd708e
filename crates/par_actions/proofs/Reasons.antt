-- Which reason is the least.
use Rattle.std.proofs.Common.{◌≡◌, Bool, true, false, ◌||◌, ◌&&◌, if◌then◌else◌, List, [], ◌∷◌}
use Rattle.std.proofs.Common.{Some, None, refl, ap, ◌∙◌}
use Rattle.par_values.specs.Areas.{Name, Areas}
use Rattle.par_values.specs.Operations.{Operation}
use Rattle.par_values.specs.Effects.{Effect, effect}
use Rattle.par_values.specs.Reasons.{Spot, lacks, misgiven, unfit, exceeds, throws, misplaced}
use Rattle.par_values.specs.Reasons.{falls, misnamed, disagrees, misreturns, misused, least_from}
use Rattle.par_values.specs.Reasons.{reason}
use Rattle.par_actions.specs.Done.{lesser, thrown_reason}

pub reason_1 : (classes : List Name) (spot : Spot) (o : Operation) (a : Areas) → lacks o a ≡ true
    → reason classes spot o a ≡ Some 1
unfolding reason
reason_1 classes spot o a one = rw one

pub reason_2 : (classes : List Name) (spot : Spot) (o : Operation) (a : Areas) → lacks o a ≡ false
    → (misgiven classes spot o a || unfit classes o a) ≡ true
    → reason classes spot o a ≡ Some 2
unfolding reason
reason_2 classes spot o a one two = rw (one, two)

pub reason_3 : (classes : List Name) (spot : Spot) (o : Operation) (a : Areas) → lacks o a ≡ false
    → (misgiven classes spot o a || unfit classes o a) ≡ false
    → ((spot.is_roomless && throws (effect classes o a)) || exceeds spot.room o a) ≡ true
    → reason classes spot o a ≡ Some 3
unfolding reason
reason_3 classes spot o a one two three = rw (one, two, three)

pub reason_4 : (classes : List Name) (spot : Spot) (o : Operation) (a : Areas) → lacks o a ≡ false
    → (misgiven classes spot o a || unfit classes o a) ≡ false
    → ((spot.is_roomless && throws (effect classes o a)) || exceeds spot.room o a) ≡ false
    → misplaced classes o a ≡ true → reason classes spot o a ≡ Some 4
unfolding reason
reason_4 classes spot o a one two three four = rw (one, two, three, four)

pub reason_5 : (classes : List Name) (spot : Spot) (o : Operation) (a : Areas) → lacks o a ≡ false
    → (misgiven classes spot o a || unfit classes o a) ≡ false
    → ((spot.is_roomless && throws (effect classes o a)) || exceeds spot.room o a) ≡ false
    → misplaced classes o a ≡ false
    → falls spot.stands spot.is_lost (effect classes o a) ≡ true → reason classes spot o a ≡ Some 5
unfolding reason
reason_5 classes spot o a one two three four five = rw (one, two, three, four, five)

pub reason_6 : (classes : List Name) (spot : Spot) (o : Operation) (a : Areas) → lacks o a ≡ false
    → (misgiven classes spot o a || unfit classes o a) ≡ false
    → ((spot.is_roomless && throws (effect classes o a)) || exceeds spot.room o a) ≡ false
    → misplaced classes o a ≡ false
    → falls spot.stands spot.is_lost (effect classes o a) ≡ false → misnamed o ≡ true
    → reason classes spot o a ≡ Some 6
unfolding reason
reason_6 classes spot o a one two three four five six = rw (one, two, three, four, five, six)

pub reason_7 : (classes : List Name) (spot : Spot) (o : Operation) (a : Areas) → lacks o a ≡ false
    → (misgiven classes spot o a || unfit classes o a) ≡ false
    → ((spot.is_roomless && throws (effect classes o a)) || exceeds spot.room o a) ≡ false
    → misplaced classes o a ≡ false
    → falls spot.stands spot.is_lost (effect classes o a) ≡ false → misnamed o ≡ false
    → disagrees o ≡ true → reason classes spot o a ≡ Some 7
unfolding reason
reason_7 classes spot o a one two three four five six seven =
    rw (one, two, three, four, five, six, seven)

pub reason_8 : (classes : List Name) (spot : Spot) (o : Operation) (a : Areas) → lacks o a ≡ false
    → (misgiven classes spot o a || unfit classes o a) ≡ false
    → ((spot.is_roomless && throws (effect classes o a)) || exceeds spot.room o a) ≡ false
    → misplaced classes o a ≡ false
    → falls spot.stands spot.is_lost (effect classes o a) ≡ false → misnamed o ≡ false
    → disagrees o ≡ false → misreturns spot o ≡ true
    → reason classes spot o a ≡ Some 8
unfolding reason
reason_8 classes spot o a one two three four five six seven eight =
    rw (one, two, three, four, five, six, seven, eight)

pub reason_9 : (classes : List Name) (spot : Spot) (o : Operation) (a : Areas) → lacks o a ≡ false
    → (misgiven classes spot o a || unfit classes o a) ≡ false
    → ((spot.is_roomless && throws (effect classes o a)) || exceeds spot.room o a) ≡ false
    → misplaced classes o a ≡ false
    → falls spot.stands spot.is_lost (effect classes o a) ≡ false → misnamed o ≡ false
    → disagrees o ≡ false → misreturns spot o ≡ false
    → misused spot.exceptions o a ≡ true → reason classes spot o a ≡ Some 9
unfolding reason
reason_9 classes spot o a one two three four five six seven eight nine =
    rw (one, two, three, four, five, six, seven, eight, nine)

pub no_reason : (classes : List Name) (spot : Spot) (o : Operation) (a : Areas) → lacks o a ≡ false
    → (misgiven classes spot o a || unfit classes o a) ≡ false
    → ((spot.is_roomless && throws (effect classes o a)) || exceeds spot.room o a) ≡ false
    → misplaced classes o a ≡ false
    → falls spot.stands spot.is_lost (effect classes o a) ≡ false → misnamed o ≡ false
    → disagrees o ≡ false
    → misreturns spot o ≡ false → misused spot.exceptions o a ≡ false
    → reason classes spot o a ≡ None
unfolding reason
no_reason classes spot o a one two three four five six seven eight nine =
    rw (one, two, three, four, five, six, seven, eight, nine)

-- ---- by what an operation does

loud : (b t e : Bool) → e ≡ true → ((b && t) || e) ≡ true
loud true true e is = refl
loud true false e is = is
loud false t e is = is

quiet : (b t e : Bool) → t ≡ false → e ≡ false → ((b && t) || e) ≡ false
quiet true t e throws is = rw (throws, is) refl
quiet false t e throws is = is

-- the operand list would exceed its room
pub too_many : (classes : List Name) (spot : Spot) (o : Operation) (a : Areas) → lacks o a ≡ false
    → (misgiven classes spot o a || unfit classes o a) ≡ false
    → exceeds spot.room o a ≡ true → reason classes spot o a ≡ Some 3
too_many classes spot o a one two three =
    reason_3 classes spot o a one two
    (loud spot.is_roomless (throws (effect classes o a)) (exceeds spot.room o a) three)

-- a local is not as it has to be
pub misheld : (classes : List Name) (spot : Spot) (o : Operation) (a : Areas) (e : Effect)
    → effect classes o a ≡ e → throws e ≡ false
    → lacks o a ≡ false → (misgiven classes spot o a || unfit classes o a) ≡ false
    → exceeds spot.room o a ≡ false → misplaced classes o a ≡ true
    → reason classes spot o a ≡ Some 4
misheld classes spot o a e does calm one two three four =
    reason_4 classes spot o a one two
    (quiet spot.is_roomless (throws (effect classes o a)) (exceeds spot.room o a)
    (ap throws does ∙ calm) three) four

-- no instruction stands where it goes on
pub astray : (classes : List Name) (spot : Spot) (o : Operation) (a : Areas) (e : Effect)
    → effect classes o a ≡ e → throws e ≡ false
    → falls spot.stands spot.is_lost e ≡ true → lacks o a ≡ false
    → (misgiven classes spot o a || unfit classes o a) ≡ false → exceeds spot.room o a ≡ false
    → misplaced classes o a ≡ false → reason classes spot o a ≡ Some 5
astray classes spot o a e does calm five one two three four =
    reason_5 classes spot o a one two
    (quiet spot.is_roomless (throws (effect classes o a)) (exceeds spot.room o a)
    (ap throws does ∙ calm) three) four
    (ap (falls spot.stands spot.is_lost) does ∙ five)

-- an index names what it is not to name
pub wrong_index : (classes : List Name) (spot : Spot) (o : Operation) (a : Areas) (e : Effect)
    → effect classes o a ≡ e → throws e ≡ false
    → falls spot.stands spot.is_lost e ≡ false → lacks o a ≡ false
    → (misgiven classes spot o a || unfit classes o a) ≡ false → exceeds spot.room o a ≡ false
    → misplaced classes o a ≡ false → misnamed o ≡ true → reason classes spot o a ≡ Some 6
wrong_index classes spot o a e does calm five one two three four six =
    reason_6 classes spot o a one two
    (quiet spot.is_roomless (throws (effect classes o a)) (exceeds spot.room o a)
    (ap throws does ∙ calm) three) four
    (ap (falls spot.stands spot.is_lost) does ∙ five) six

-- nothing stands against it
pub free : (classes : List Name) (spot : Spot) (o : Operation) (a : Areas) (e : Effect)
    → effect classes o a ≡ e → throws e ≡ false
    → falls spot.stands spot.is_lost e ≡ false → lacks o a ≡ false
    → (misgiven classes spot o a || unfit classes o a) ≡ false → exceeds spot.room o a ≡ false
    → misplaced classes o a ≡ false → misnamed o ≡ false → disagrees o ≡ false
    → misreturns spot o ≡ false → misused spot.exceptions o a ≡ false
    → reason classes spot o a ≡ None
free classes spot o a e does calm five one two three four six seven eight nine =
    no_reason classes spot o a one two
    (quiet spot.is_roomless (throws (effect classes o a)) (exceeds spot.room o a)
    (ap throws does ∙ calm) three) four
    (ap (falls spot.stands spot.is_lost) does ∙ five) six seven eight nine

-- static and instance do not agree
pub disagreed : (classes : List Name) (spot : Spot) (o : Operation) (a : Areas) (e : Effect)
    → effect classes o a ≡ e → throws e ≡ false
    → falls spot.stands spot.is_lost e ≡ false → lacks o a ≡ false
    → (misgiven classes spot o a || unfit classes o a) ≡ false → exceeds spot.room o a ≡ false
    → misplaced classes o a ≡ false → misnamed o ≡ false → disagrees o ≡ true
    → reason classes spot o a ≡ Some 7
disagreed classes spot o a e does calm five one two three four six seven =
    reason_7 classes spot o a one two
    (quiet spot.is_roomless (throws (effect classes o a)) (exceeds spot.room o a)
    (ap throws does ∙ calm) three) four
    (ap (falls spot.stands spot.is_lost) does ∙ five) six seven

-- an object is made of a class of which none is made
pub misused_9 : (classes : List Name) (spot : Spot) (o : Operation) (a : Areas) (e : Effect)
    → effect classes o a ≡ e → throws e ≡ false
    → falls spot.stands spot.is_lost e ≡ false → lacks o a ≡ false
    → (misgiven classes spot o a || unfit classes o a) ≡ false → exceeds spot.room o a ≡ false
    → misplaced classes o a ≡ false → misnamed o ≡ false → disagrees o ≡ false
    → misreturns spot o ≡ false → misused spot.exceptions o a ≡ true
    → reason classes spot o a ≡ Some 9
misused_9 classes spot o a e does calm five one two three four six seven eight nine =
    reason_9 classes spot o a one two
    (quiet spot.is_roomless (throws (effect classes o a)) (exceeds spot.room o a)
    (ap throws does ∙ calm) three) four
    (ap (falls spot.stands spot.is_lost) does ∙ five) six seven eight nine

-- it does not leave its method as that is to be left
pub misreturned : (classes : List Name) (spot : Spot) (o : Operation) (a : Areas) (e : Effect)
    → effect classes o a ≡ e → throws e ≡ false
    → falls spot.stands spot.is_lost e ≡ false → lacks o a ≡ false
    → (misgiven classes spot o a || unfit classes o a) ≡ false → exceeds spot.room o a ≡ false
    → misplaced classes o a ≡ false → misnamed o ≡ false → disagrees o ≡ false
    → misreturns spot o ≡ true → reason classes spot o a ≡ Some 8
misreturned classes spot o a e does calm five one two three four six seven eight =
    reason_8 classes spot o a one two
    (quiet spot.is_roomless (throws (effect classes o a)) (exceeds spot.room o a)
    (ap throws does ∙ calm) three) four
    (ap (falls spot.stands spot.is_lost) does ∙ five) six seven eight

by_handler : (roomless lost nine : Bool)
    → least_from 1 (false ∷ false ∷ ((roomless && true) || false) ∷ false ∷ lost ∷ false ∷ false
    ∷ false ∷ nine ∷ [])
    ≡ lesser (if roomless then Some 3 else (if lost then Some 5 else None))
    (if nine then Some 9 else None)
by_handler true lost true = refl
by_handler true lost false = refl
by_handler false true true = refl
by_handler false true false = refl
by_handler false false true = refl
by_handler false false false = refl

-- it throws, and what stands against it is of its handler, or that it throws no exception
pub thrown : (classes : List Name) (spot : Spot) (o : Operation) (a : Areas) (e : Effect)
    (nine : Bool) → effect classes o a ≡ e → throws e ≡ true
    → falls spot.stands spot.is_lost e ≡ spot.is_lost → lacks o a ≡ false
    → (misgiven classes spot o a || unfit classes o a) ≡ false → exceeds spot.room o a ≡ false
    → misplaced classes o a ≡ false → misnamed o ≡ false → disagrees o ≡ false
    → misreturns spot o ≡ false → misused spot.exceptions o a ≡ nine
    → reason classes spot o a ≡ thrown_reason (if nine then Some 9 else None) spot
unfolding reason
thrown classes spot o a e nine does throwing five one two three four six seven eight is =
    rw (
      one,
      two,
      three,
      ap throws does ∙ throwing,
      four,
      ap (falls spot.stands spot.is_lost) does ∙ five,
      six,
      seven,
      eight,
      is,
    )
    (by_handler spot.is_roomless spot.is_lost nine)

by_handler_or_7 : (roomless lost seven : Bool)
    → least_from 1 (false ∷ false ∷ ((roomless && true) || false) ∷ false ∷ lost ∷ false ∷ seven
    ∷ false ∷ false ∷ [])
    ≡ lesser (if roomless then Some 3 else (if lost then Some 5 else None))
    (if seven then Some 7 else None)
by_handler_or_7 true lost true = refl
by_handler_or_7 true lost false = refl
by_handler_or_7 false true true = refl
by_handler_or_7 false true false = refl
by_handler_or_7 false false true = refl
by_handler_or_7 false false false = refl

-- it throws, and what stands against it is of its handler, or that static and instance do not agree
pub thrown_static : (classes : List Name) (spot : Spot) (o : Operation) (a : Areas) (e : Effect)
    (seven : Bool) → effect classes o a ≡ e → throws e ≡ true
    → falls spot.stands spot.is_lost e ≡ spot.is_lost → lacks o a ≡ false
    → (misgiven classes spot o a || unfit classes o a) ≡ false → exceeds spot.room o a ≡ false
    → misplaced classes o a ≡ false → misnamed o ≡ false → disagrees o ≡ seven
    → misreturns spot o ≡ false → misused spot.exceptions o a ≡ false
    → reason classes spot o a ≡ thrown_reason (if seven then Some 7 else None) spot
unfolding reason
thrown_static classes spot o a e seven does throwing five one two three four six is eight nine =
    rw (
      one,
      two,
      three,
      ap throws does ∙ throwing,
      four,
      ap (falls spot.stands spot.is_lost) does ∙ five,
      six,
      is,
      eight,
      nine,
    )
    (by_handler_or_7 spot.is_roomless spot.is_lost seven)

-- what may come of a push, and of a push of a local
pub ruleset push = (reason_3, reason_5, no_reason)

pub ruleset load = (reason_3, reason_4, reason_5, no_reason)
