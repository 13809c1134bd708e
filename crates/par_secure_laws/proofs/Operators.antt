-- Operators, literals and fields that are read.
use Rattle.std.proofs.Common.{◌≡◌, ℕ, Bool, true, false, ◌&&◌, not, ⊎_elim, Option, Some, None}
use Rattle.std.proofs.Common.{List, [], ◌∷◌, refl, ap, sym, ◌∙◌, subst, if◌then◌else◌}
use Rattle.std.specs.Prelude.{IsTrue, ℤ}
use Rattle.std.proofs.lemmas.Bool.{cases_Bool}
use Rattle.par_program_laws.specs.Kinds as kind
use Rattle.par_program_laws.specs.Kinds.{Kind}
use Rattle.par_program_laws.specs.Ways.{Flows, MayFlow, MayLand}
use Rattle.par_program_laws.specs.Facts.{Fact, Facts}
use Rattle.par_program_laws.specs.Rules as rules
use Rattle.par_program_laws.specs.Rules.{From, Entry, After, Tested, node, Rules, Node}
use Rattle.par_program_laws.specs.Kinds.{Next, Loop, Catches, Absorber}
use Rattle.par_program_laws.specs.Rules.{can}
use Rattle.par_program_laws.specs.Body.{exp, if_not, args, sta, past}
use Rattle.par_program_laws.specs.Body as body
use Rattle.par_typed.specs.Plain as plain
use Rattle.par_typed.specs.Plain.{TExp, TExps, MayTExp, TSta, TStas, TCatches, Mark, mark, point}
use Rattle.std.specs.Prelude.{pos}
use Rattle.par_typed.specs.Plain.{Body}
use Rattle.std.specs.Ordering.{int_eq}
use Rattle.par_typed.specs.par_lexer.declared.operator.BinOp.{BinOp}
use Rattle.par_typed.specs.par_lexer.declared.operator.BinOp.TheVariants.{Or, And, BitOr, BitXor}
use Rattle.par_typed.specs.par_lexer.declared.operator.BinOp.TheVariants.{BitAnd}
use Rattle.par_typed.specs.par_lexer.declared.operator.BinOp.TheVariants.{Eq, Ne, Lt, Le, Gt, Ge}
use Rattle.par_typed.specs.par_lexer.declared.operator.BinOp.TheVariants.{Shl, Shr}
use Rattle.par_typed.specs.par_lexer.declared.operator.BinOp.TheVariants.{Ushr, Add, Sub, Mul, Div}
use Rattle.par_typed.specs.par_lexer.declared.operator.BinOp.TheVariants.{Rem}
use Rattle.par_run_laws.specs.Meaning.{Calls, eval, operates}
use Rattle.par_run_laws.specs.Values.{decides, throws, applied}
use Rattle.par_values.specs.declared.value.MVal.{MVal}
use Rattle.par_values.specs.declared.value.MVal.TheVariants as value
use Rattle.par_values.specs.Areas.{next}
use Rattle.par_run_laws.specs.Values.{object_number}
use Rattle.par_run_laws.specs.Tasks.{Normal, Thrown, Task, nothing, done, gives, paid, read, follow}
use Rattle.par_run_laws.specs.Tasks.{and_then, tested, NULL_POINTER, ARITHMETIC}
use Rattle.par_pass_laws.proofs.Along.{and_r}
use Rattle.par_alike.proofs.States.{Watch, Blocked, BodyFlowsTo, Exits, FlowsTo, Frame}
use Rattle.par_alike.proofs.States.{IsMade}
use Rattle.par_alike.proofs.States.{Restores, Unseen, Values, Way, declared, exits}
use Rattle.par_alike.proofs.States.{flows_here}
use Rattle.par_alike.proofs.States.{flows_is, flows_raised, lands_is, lands_raised, lattice}
use Rattle.par_alike.proofs.States.{raised, raised_lands, swap, thrown}
use Rattle.par_secure_laws.proofs.Points.{Has, Obey, Piece, open_if_not, open_leaves, open_node}
use Rattle.par_secure_laws.proofs.Points.{open_worths, raised_is, restores_of, throws_there}
use Rattle.par_alike.proofs.Arguments.{truth_made}
use Rattle.par_alike.proofs.OneRun.{Hush, Tail, paid_left, tail_higher, tail_normal}
use Rattle.par_alike.proofs.OneRun.{tail_other, tail_part}
use Rattle.par_alike.proofs.TwoRuns.{Step, over_raised, step_apart, step_body, step_normal}
use Rattle.par_alike.proofs.TwoRuns.{step_other}
use Rattle.par_alike.proofs.Parts.{step_part, tail_tested}
use Rattle.par_alike.proofs.Leaves.{Sound, tail_read}

module _ (on : Watch) where
  module _ (a : Facts (lattice on)) where
    -- operators
    abbrev is_logic : BinOp → Bool
    is_logic And = true
    is_logic Or = true
    is_logic _ = false

    abbrev binary_end : Rules
    binary_end =
        rules.goes_on past
        (rules.Worths (rules.Value 1) (rules.Worths (rules.Value 0) rules.Done))

    not_decided : (op : BinOp) (u : MVal) → is_logic op ≡ false → decides op u ≡ false
    not_decided And u e = absurd cc
    not_decided Or u e = absurd cc
    not_decided _ u e = refl

    decided_logic : (op : BinOp) (u : MVal) → decides op u ≡ true → is_logic op ≡ true
    decided_logic And u e = refl
    decided_logic Or u e = refl
    decided_logic _ u e = absurd cc

    pub record Second (op : BinOp) (q : ℕ) (n : Way on) (x : Option (Way on)) : Type 0 where
      pub way : Way on
      pub is : x ≡ Some way
      pub higher : Flows (lattice on) n way
      pub logic : is_logic op ≡ true → way ≡ raised on n (a q).value

    pub second_is : (op : BinOp) (q : ℕ) (n : Way on) (o : Option (Way on))
        → (a q).exit kind.Normal ≡ Some n
        → Second op q n (rules.way (lattice on) o (a q ∷ []) (body.second op))
    unfolding rules.way
    second_is And q n o e = record {
      way = raised on n (a q).value;
      is = raised_is on a q n e;
      higher = flows_raised on (a q).value;
      logic = λ i. refl;
    }
    second_is Or q n o e = record {
      way = raised on n (a q).value;
      is = raised_is on a q n e;
      higher = flows_raised on (a q).value;
      logic = λ i. refl;
    }
    second_is _ q n o e = record { way = n; is = e; higher = flows_here on; logic = λ i. absurd cc }

    -- the way where the first part decides
    skip_is : {p : ℕ} {head : Option ℕ} {x y : ℕ} (more : Rules) (op : BinOp) (u : MVal)
        → decides op u ≡ true → Has on a p head (a y ∷ a x ∷ []) (body.skips op more)
        → MayLand (lattice on) ((a x).exit kind.Normal) ((a p).exit kind.Normal)
    unfolding rules.way
    skip_is more And u e h = (open_leaves on a h).0
    skip_is more Or u e h = (open_leaves on a h).0
    skip_is more _ u e h = absurd cc

    skip_more : {p : ℕ} {head : Option ℕ} {fs : List (Fact (lattice on))} (more : Rules)
        (op : BinOp) → Has on a p head fs (body.skips op more) → Has on a p head fs more
    skip_more more And h = (open_leaves on a h).1
    skip_more more Or h = (open_leaves on a h).1
    skip_more more _ h = h

    -- the way where a division throws
    divide_is : {p : ℕ} {head : Option ℕ} {fs : List (Fact (lattice on))} (more : Rules)
        (op : BinOp) (y : TExp) (v : MVal) → throws op v ≡ true → body.is_sure y ≡ false
        → Has on a p head fs (body.divides op y more)
        → MayFlow (lattice on) (rules.way (lattice on) (a p).entry fs body.tested)
        ((a p).exit (kind.Throw 0))
    divide_is more Div y v e f h =
        (open_if_not on a body.tested (kind.Throw 0) (body.is_sure y) h).0 f
    divide_is more Rem y v e f h =
        (open_if_not on a body.tested (kind.Throw 0) (body.is_sure y) h).0 f
    divide_is more _ y v e f h = absurd cc

    divide_more : {p : ℕ} {head : Option ℕ} {fs : List (Fact (lattice on))} (more : Rules)
        (op : BinOp) (y : TExp) → Has on a p head fs (body.divides op y more)
        → Has on a p head fs more
    divide_more more Div y h = (open_if_not on a body.tested (kind.Throw 0) (body.is_sure y) h).1
    divide_more more Rem y h = (open_if_not on a body.tested (kind.Throw 0) (body.is_sure y) h).1
    divide_more more _ y h = h

    -- no operator makes an object
    applied_made : (op : BinOp) (u v : MVal) → IsMade on v → IsMade on (applied op u v)
    applied_made Or u v i = i
    applied_made And u v i = i
    applied_made BitOr u v i = tt
    applied_made BitXor u v i = tt
    applied_made BitAnd u v i = tt
    applied_made Eq u v i = truth_made on _
    applied_made Ne u v i = truth_made on _
    applied_made Lt u v i = truth_made on _
    applied_made Le u v i = truth_made on _
    applied_made Gt u v i = truth_made on _
    applied_made Ge u v i = truth_made on _
    applied_made Shl u v i = tt
    applied_made Shr u v i = tt
    applied_made Ushr u v i = tt
    applied_made Add u v i = tt
    applied_made Sub u v i = tt
    applied_made Mul u v i = tt
    applied_made Div u v i = tt
    applied_made Rem u v i = tt

    -- a literal that is not 0
    pub record IsLiteral (y : TExp) : Type 0 where
      pub n : ℤ
      pub m : Mark
      pub is : y ≡ plain.Int n m
      pub not_zero : int_eq n (pos 0) ≡ false

    literal_of : (y : TExp) → body.is_sure y ≡ true → IsLiteral y
    literal_of (plain.Int n m) e = record {
      n = n;
      m = m;
      is = refl;
      not_zero = not_false (int_eq n (pos 0)) e;
    }
      where
        not_false : (b : Bool) → not b ≡ true → b ≡ false
        not_false true e = absurd cc
        not_false false e = refl
    literal_of _ e = absurd cc

    not_thrown : (op : BinOp) (n : ℤ) → int_eq n (pos 0) ≡ false → throws op (value.Int n) ≡ true
        → ⊥
    not_thrown Div n e f = cc
    not_thrown Rem n e f = cc
    not_thrown _ n e f = cc

    pub tail_if_is : {g : Frame} {z : Way on} {x : Exits on} {c c' : Task} (v : Bool)
        → (v ≡ true → Tail on g z x c) → (v ≡ false → Tail on g z x c')
        → Tail on g z x (if v then c else c')
    tail_if_is true p q = p refl
    tail_if_is false p q = q refl

    -- both parts of an operator are there
    operates_tail : {g : Frame} {n : Way on} {x : Exits on} (V : Bool) (op : BinOp) (u v : MVal)
        → IsMade on v → (throws op v ≡ true → FlowsTo on (raised on n V) (x (Thrown ARITHMETIC)))
        → BodyFlowsTo on n (x Normal) → Tail on g (raised on n V) x (operates op u v)
    operates_tail V op u v i t q =
        tail_if_is (throws op v)
        (λ e. tail_other on (Thrown ARITHMETIC) nothing (thrown ARITHMETIC) (t e))
        (λ e. tail_normal on (applied op u v) (applied_made op u v i) (raised_lands on V q))

    -- the same in two runs
    operates_step : {g : Frame} {n w : Way on} {x : Exits on} (Va V Vp : Bool) (op : BinOp)
        (u u' v v' : MVal) → Restores on w x → IsMade on v → IsMade on v' → Values Va u u'
        → Values V v v' → (IsTrue Vp → IsTrue Va) → (IsTrue Vp → IsTrue V)
        → (throws op v ≡ true → FlowsTo on (raised on n V) (x (Thrown ARITHMETIC)))
        → (throws op v' ≡ true → FlowsTo on (raised on n V) (x (Thrown ARITHMETIC)))
        → BodyFlowsTo on n (x Normal)
        → Step on g n x (Values Vp) (operates op u v) (operates op u' v')
    operates_step {g} {n} {w} {x} Va V Vp op u u' v v' rs i i' r r' la lb t t' q =
        ⊎_elim (λ p. step_ok (throws op v) (throws op v') (ap (throws op) (r' p)) t)
        (λ p.
        let un : Unseen (n.context && V) = λ b. let c = and_r n.context V b in
        cc in step_apart on rs (λ b c e. let f = lb e in absurd cc)
        (over_raised on V un (operates_tail V op u v i t q))
        (over_raised on V un (operates_tail V op u' v' i' t' q))) (cases_Bool V)
      where
        step_ok : (b b' : Bool) → b ≡ b'
            → (b ≡ true → FlowsTo on (raised on n V) (x (Thrown ARITHMETIC)))
            → Step on g n x (Values Vp)
            (if b then done (Thrown ARITHMETIC) nothing else gives (applied op u v))
            (if b' then done (Thrown ARITHMETIC) nothing else gives (applied op u' v'))
        step_ok true b' e t =
            subst (λ b'. Step on g n x (Values Vp) (done (Thrown ARITHMETIC) nothing)
            (if b' then done (Thrown ARITHMETIC) nothing else gives (applied op u' v'))) e
            (step_body on (lands_raised on V)
            (step_other on (Thrown ARITHMETIC) nothing nothing (thrown ARITHMETIC) (t refl)))
        step_ok false b' e t =
            subst (λ b'. Step on g n x (Values Vp) (gives (applied op u v))
            (if b' then done (Thrown ARITHMETIC) nothing else gives (applied op u' v'))) e
            (step_normal on (applied op u v) (applied op u' v') (applied_made op u v i)
            (applied_made op u' v' i') q
            (λ p. ap (λ z. applied op z v) (r (la p)) ∙ ap (λ z. applied op u' z) (r' (lb p))))

    -- a value that is there at the price of a step
    pub tail_given : {g : Frame} {z : Way on} {x : Exits on} (v : MVal) (next : MVal → Task)
        → Tail on g z x (next v) → Tail on g z x (and_then (paid (gives v)) next)
    tail_given v next q = record {
      at =
          λ w s t f n ys b op r h. paid_left on (gives v) (follow next f) t n ys
          (λ n. q.at w s t f n ys b op r h);
    }

    -- the same in two runs
    pub step_given : {g : Frame} {w : Way on} {x : Exits on} {R : MVal → MVal → Type 0}
        (v v' : MVal) (next next' : MVal → Task) → Step on g w x R (next v) (next' v')
        → Step on g w x R (and_then (paid (gives v)) next) (and_then (paid (gives v')) next')
    step_given v v' next next' q = record {
      at =
          λ s t f f' m n l h. paid_left on (gives v) (follow next f) s m _
          (λ m. swap on _ _
          (paid_left on (gives v') (follow next' f') t n _
          (λ n. swap on _ _ (q.at s t f f' m n l h))));
    }

    literal_behind : (n : ℤ) (m : Mark) {z : Way on} (q : FlowsTo on z (a m.point).entry)
        → Obey on a (exp (declared on) (plain.Int n m))
        → (w : Way on) × ((a m.point).exit kind.Normal ≡ Some w) × Flows (lattice on) z w
    unfolding exp rules.way
    literal_behind n m q ob =
        let h = open_node on a ob in
        let l = lands_is on q.way _ _ q.there (open_leaves on a h.1).0 in
        let rs = restores_of on a m.point q.way q.there h.0 in (
          l.way,
          l.there,
          record {
            context = λ p. q.higher.context (rs.entry l.way l.there p);
            lands = record {
              env = λ i p. q.higher.lands.env i (l.higher.env i p);
              locks = λ i p. q.higher.lands.locks i (l.higher.locks i p);
            };
          },
        )

    -- where a field of an object is read
    pub field_tail : {g : Frame} {n : Way on} {x : Exits on} (V : Bool) (sure : Bool) (u : MVal)
        (c f : ℕ) → (sure ≡ false → FlowsTo on (raised on n V) (x (Thrown NULL_POINTER)))
        → BodyFlowsTo on n (x Normal)
        → Tail on g (raised on n V) x (tested sure u (read (λ s. s.fields c (object_number u) f)))
    field_tail V sure u c f t q =
        tail_tested on sure u t
        (tail_read on (λ s. s.fields c (object_number u) f)
        (λ s m. m.fields c (object_number u) f) (raised_lands on V q))

    literal_at : (run : Calls) (n : ℤ) (m : Mark) {g : Frame} {z : Way on} {x : Exits on}
        (q : FlowsTo on z (a (mark (plain.Int n m)).point).entry)
        → Obey on a (exp (declared on) (plain.Int n m)) → (next : MVal → Task)
        → ((w : Way on) → (a (mark (plain.Int n m)).point).exit kind.Normal ≡ Some w
        → Tail on g w x (next (value.Int n)))
        → Tail on g z x (and_then (eval on.table run (plain.Int n m)) next)
    unfolding mark eval
    literal_at run n m q ob next h =
        let w = literal_behind n m q ob in
        tail_higher on w.2 (tail_given (value.Int n) next (h w.0 w.1))

    -- a literal divisor in one run
    literal_tail : (run : Calls) (y : TExp) (l : IsLiteral y) {g : Frame} {z : Way on}
        {x : Exits on} (q : FlowsTo on z (a (mark y).point).entry)
        → Obey on a (exp (declared on) y) → (next : MVal → Task)
        → ((w : Way on) → (a (mark y).point).exit kind.Normal ≡ Some w
        → Tail on g w x (next (value.Int l.n)))
        → Tail on g z x (and_then (eval on.table run y) next)
    literal_tail run y l {g} {z} {x} =
        subst (λ y. (q : FlowsTo on z (a (mark y).point).entry) → Obey on a (exp (declared on) y)
        → (next : MVal → Task) →
        ((w : Way on) → (a (mark y).point).exit kind.Normal ≡ Some w
        → Tail on g w x (next (value.Int l.n)))
        → Tail on g z x (and_then (eval on.table run y) next)) (sym l.is)
        (λ q ob next h. literal_at run l.n l.m q ob next h)

    literal_step_at : (run run' : Calls) (n : ℤ) (m : Mark) {g : Frame} {z : Way on}
        {x : Exits on} {R : MVal → MVal → Type 0}
        (q : FlowsTo on z (a (mark (plain.Int n m)).point).entry)
        → Obey on a (exp (declared on) (plain.Int n m)) → (next next' : MVal → Task)
        → ((w : Way on) → (a (mark (plain.Int n m)).point).exit kind.Normal ≡ Some w
        → Step on g w x R (next (value.Int n)) (next' (value.Int n)))
        → Step on g z x R (and_then (eval on.table run (plain.Int n m)) next)
        (and_then (eval on.table run' (plain.Int n m)) next')
    unfolding mark eval
    literal_step_at run run' n m q ob next next' h =
        let w = literal_behind n m q ob in
        step_body on w.2.lands (step_given (value.Int n) (value.Int n) next next' (h w.0 w.1))

    -- and in two
    literal_step : (run run' : Calls) (y : TExp) (l : IsLiteral y) {g : Frame} {z : Way on}
        {x : Exits on} {R : MVal → MVal → Type 0} (q : FlowsTo on z (a (mark y).point).entry)
        → Obey on a (exp (declared on) y) → (next next' : MVal → Task)
        → ((w : Way on) → (a (mark y).point).exit kind.Normal ≡ Some w
        → Step on g w x R (next (value.Int l.n)) (next' (value.Int l.n)))
        → Step on g z x R (and_then (eval on.table run y) next)
        (and_then (eval on.table run' y) next')
    literal_step run run' y l {g} {z} {x} {R} =
        subst (λ y. (q : FlowsTo on z (a (mark y).point).entry) → Obey on a (exp (declared on) y)
        → (next next' : MVal → Task) →
        ((w : Way on) → (a (mark y).point).exit kind.Normal ≡ Some w
        → Step on g w x R (next (value.Int l.n)) (next' (value.Int l.n)))
        → Step on g z x R (and_then (eval on.table run y) next)
        (and_then (eval on.table run' y) next')) (sym l.is)
        (λ q ob next next' h. literal_step_at run run' l.n l.m q ob next next' h)

    -- the rules of an operator behind its first part
    pub record Pairwise (sound : Sound on) (p : ℕ) (op : BinOp) (x y : TExp) : Type 0 where
      pub sub : Piece on a p y
          (rules.way (lattice on) (a p).entry (a (mark x).point ∷ []) (body.second op))
      pub rest : Has on a p None (a (mark y).point ∷ a (mark x).point ∷ [])
          (body.divides op y (body.skips op binary_end))

    binary_flow : (sound : Sound on) {p : ℕ} (op : BinOp) (x y : TExp) → Pairwise sound p op x y
        → (v : MVal) (n : Way on) → (a (mark y).point).exit kind.Normal ≡ Some n
        → body.is_sure y ≡ false → throws op v ≡ true
        → FlowsTo on (raised on n (a (mark y).point).value) (exits on a p (Thrown ARITHMETIC))
    unfolding rules.way
    binary_flow sound op x y h v n e f t =
        throws_there on a ARITHMETIC _ _ sound.arithmetic
        (flows_is on _ _ _ (raised_is on a (mark y).point n e)
        (divide_is (body.skips op binary_end) op y v t f h.rest))

    -- an operator is over
    binary_lands : (sound : Sound on) {p : ℕ} (op : BinOp) (x y : TExp) → Pairwise sound p op x y
        → (n : Way on) → (a (mark y).point).exit kind.Normal ≡ Some n
        → BodyFlowsTo on n (exits on a p Normal)
    unfolding rules.way
    binary_lands sound op x y h n e =
        lands_is on n _ _ e
        (open_leaves on a
        (skip_more binary_end op (divide_more (body.skips op binary_end) op y h.rest))).0

    -- its value is above those of its parts
    binary_worths : (sound : Sound on) {p : ℕ} (op : BinOp) (x y : TExp) → Pairwise sound p op x y
        → IsTrue (a p).value → IsTrue (a (mark x).point).value × IsTrue (a (mark y).point).value
    unfolding rules.worth
    binary_worths sound op x y h v =
        let w = open_worths on a
        (open_leaves on a
        (skip_more binary_end op (divide_more (body.skips op binary_end) op y h.rest))).1 in
        let u = open_worths on a w.1 in
        (w.0 v, u.0 v)

    -- the second part of an operator in one run
    binary_tail : (sound : Sound on) (run : Calls) {p : ℕ} (op : BinOp) (x y : TExp)
        (h : Pairwise sound p op x y) {g : Frame} {z : Way on}
        (q : FlowsTo on z (a (mark y).point).entry) (u : MVal)
        → (Blocked on g q.way → Hush on g q.way (exits on a (mark y).point) (eval on.table run y))
        → Tail on g z (exits on a p) (and_then (eval on.table run y) (operates op u))
    binary_tail sound run {p} op x y h {g} {z} q u ih =
        ⊎_elim (λ e.
        let l = literal_of y e in
        literal_tail run y l q (h.sub.obeys q.way q.there) (operates op u)
        (λ n i. tail_higher on (flows_raised on (a (mark y).point).value)
        (operates_tail (a (mark y).point).value op u (value.Int l.n) tt
        (λ t. absurd (not_thrown op l.n l.not_zero t)) (binary_lands sound op x y h n i))))
        (λ e. tail_part on q h.sub.leaves (operates op u) ih
        (λ v n iv i. tail_higher on (flows_raised on (a (mark y).point).value)
        (operates_tail (a (mark y).point).value op u v iv (binary_flow sound op x y h v n i e)
        (binary_lands sound op x y h n i)))) (cases_Bool (body.is_sure y))

    -- and in two
    pub binary_step : (sound : Sound on) (run run' : Calls) {p : ℕ} (op : BinOp) (x y : TExp)
        (h : Pairwise sound p op x y) {g : Frame} {z w : Way on}
        (q : FlowsTo on z (a (mark y).point).entry) (u u' : MVal) → Restores on w (exits on a p)
        → Values (a (mark x).point).value u u'
        → Step on g q.way (exits on a (mark y).point) (Values (a (mark y).point).value)
        (eval on.table run y) (eval on.table run' y)
        → Step on g z (exits on a p) (Values (a p).value)
        (and_then (eval on.table run y) (operates op u))
        (and_then (eval on.table run' y) (operates op u'))
    binary_step sound run run' {p} op x y h {g} {z} {w} q u u' rs r ih =
        let vx = (a (mark x).point).value in
        let vy = (a (mark y).point).value in
        let lx = λ (v : IsTrue (a p).value). (binary_worths sound op x y h v).0 in
        let ly = λ (v : IsTrue (a p).value). (binary_worths sound op x y h v).1 in
        ⊎_elim (λ e.
        let l = literal_of y e in
        literal_step run run' y l q (h.sub.obeys q.way q.there) (operates op u) (operates op u')
        (λ n i. operates_step vx vy (a p).value op u u' (value.Int l.n) (value.Int l.n) rs tt tt r
        (λ b. refl) lx ly (λ t. absurd (not_thrown op l.n l.not_zero t))
        (λ t. absurd (not_thrown op l.n l.not_zero t)) (binary_lands sound op x y h n i)))
        (λ e. step_part on q h.sub.leaves (operates op u) (operates op u') rs ih
        (λ v v' n iv iv' i r'. operates_step vx vy (a p).value op u u' v v' rs iv iv' r r' lx ly
        (binary_flow sound op x y h v n i e) (binary_flow sound op x y h v' n i e)
        (binary_lands sound op x y h n i))
        (λ v n iv i. tail_higher on (flows_raised on vy)
        (operates_tail vy op u v iv (binary_flow sound op x y h v n i e)
        (binary_lands sound op x y h n i)))
        (λ v n iv i. tail_higher on (flows_raised on vy)
        (operates_tail vy op u' v iv (binary_flow sound op x y h v n i e)
        (binary_lands sound op x y h n i)))) (cases_Bool (body.is_sure y))

    -- the second part, where the first does not decide
    pub second_tail : (sound : Sound on) (run : Calls) {p : ℕ} (op : BinOp) (x y : TExp)
        (h : Pairwise sound p op x y) {g : Frame} {n : Way on} (u : MVal) → IsMade on u
        → (a (mark x).point).exit kind.Normal ≡ Some n
        → ((w : Way on) → (a (mark y).point).entry ≡ Some w → Blocked on g w
        → Hush on g w (exits on a (mark y).point) (eval on.table run y))
        → (z : Second op (mark x).point n
        (rules.way (lattice on) (a p).entry (a (mark x).point ∷ []) (body.second op)))
        → Tail on g z.way (exits on a p)
        (if decides op u then gives u else and_then (eval on.table run y) (operates op u))
    unfolding rules.way
    second_tail sound run {p} op x y h {g} {n} u iu e ih z =
        let q = flows_is on z.way _ _ z.is h.sub.enters in
        let dv = divide_more (body.skips op binary_end) op y h.rest in
        tail_if_is (decides op u)
        (λ f. tail_normal on u iu
        (subst (λ w. BodyFlowsTo on w (exits on a p Normal))
        (sym (z.logic (decided_logic op u f)))
        (raised_lands on (a (mark x).point).value
        (lands_is on n _ _ e (skip_is binary_end op u f dv)))))
        (λ f. binary_tail sound run op x y h q u (λ b. ih q.way q.there b))

    -- the same in two runs
    pub second_step : (sound : Sound on) (run run' : Calls) {p : ℕ} (op : BinOp) (x y : TExp)
        (h : Pairwise sound p op x y) {g : Frame} {n w : Way on} (u u' : MVal) → IsMade on u
        → IsMade on u' → (a (mark x).point).exit kind.Normal ≡ Some n
        → Values (a (mark x).point).value u u' → Restores on w (exits on a p)
        → (z : Second op (mark x).point n
        (rules.way (lattice on) (a p).entry (a (mark x).point ∷ []) (body.second op)))
        → Step on g z.way (exits on a p) (Values (a p).value)
        (and_then (eval on.table run y) (operates op u))
        (and_then (eval on.table run' y) (operates op u'))
        → Tail on g z.way (exits on a p)
        (if decides op u then gives u else and_then (eval on.table run y) (operates op u))
        → Tail on g z.way (exits on a p)
        (if decides op u' then gives u' else and_then (eval on.table run' y) (operates op u'))
        → Step on g n (exits on a p) (Values (a p).value)
        (if decides op u then gives u else and_then (eval on.table run y) (operates op u))
        (if decides op u' then gives u' else and_then (eval on.table run' y) (operates op u'))
    unfolding rules.way
    second_step sound run run' {p} op x y h {g} {n} {w} u u' iu iu' e r rs z st tl tr =
        let V = (a (mark x).point).value in
        let dv = divide_more (body.skips op binary_end) op y h.rest in
        let same : (decides op u ≡ decides op u') → Step on g n (exits on a p)
        (Values (a p).value)
        (if decides op u then gives u else and_then (eval on.table run y) (operates op u))
        (if decides op u' then gives u' else and_then (eval on.table run' y) (operates op u')) =
        λ eq. go (decides op u) (decides op u') eq
        (λ f. lands_is on n _ _ e (skip_is binary_end op u f dv)) in
        ⊎_elim (λ sv. same (ap (decides op) (r sv)))
        (λ nv. ⊎_elim
        (λ lo.
        let un : Unseen (n.context && V) = λ b. let c = and_r n.context V b in
        cc in let at = z.logic lo in step_apart on rs
        (λ b c q. let f = (binary_worths sound op x y h q).0 in absurd cc)
        (over_raised on V un
        (subst (λ k. Tail on g k (exits on a p)
        (if decides op u then gives u else and_then (eval on.table run y) (operates op u))) at tl))
        (over_raised on V un
        (subst (λ k. Tail on g k (exits on a p)
        (if decides op u' then gives u' else and_then (eval on.table run' y) (operates op u'))) at
        tr))) (λ lo. same (not_decided op u lo ∙ sym (not_decided op u' lo)))
        (cases_Bool (is_logic op))) (cases_Bool V)
      where
        go : (b b' : Bool) → b ≡ b' → (b ≡ true → BodyFlowsTo on n (exits on a p Normal))
            → Step on g n (exits on a p) (Values (a p).value)
            (if b then gives u else and_then (eval on.table run y) (operates op u))
            (if b' then gives u' else and_then (eval on.table run' y) (operates op u'))
        go true b' eq q =
            subst (λ b'. Step on g n (exits on a p) (Values (a p).value) (gives u)
            (if b' then gives u' else and_then (eval on.table run' y) (operates op u'))) eq
            (step_normal on u u' iu iu' (q refl) (λ v. r (binary_worths sound op x y h v).0))
        go false b' eq q =
            subst (λ b'. Step on g n (exits on a p) (Values (a p).value)
            (and_then (eval on.table run y) (operates op u))
            (if b' then gives u' else and_then (eval on.table run' y) (operates op u'))) eq
            (step_body on z.higher.lands st)
