-- Where the points of a body are the numbers in order, the nodes of its rules are numbered.
use Rattle.std.proofs.Common.{◌≡◌, ℕ, zero, suc, ◌+◌, Bool, true, false, List, [], ◌∷◌, ◌++◌}
use Rattle.std.proofs.Common.{length, refl, sym, ap, subst, ◌∙◌, arith}
use Rattle.std.proofs.lemmas.List.{length-append}
use Rattle.par_program_laws.specs.par_lexer.declared.operator.BinOp.{BinOp}
use Rattle.par_program_laws.specs.par_lexer.declared.operator.BinOp.TheVariants as op
use Rattle.par_program_laws.specs.par_typed.Plain as plain
use Rattle.par_program_laws.specs.par_typed.Plain.{TExp, MayTExp, TExps, TSta, MayTSta, TStas}
use Rattle.par_program_laws.specs.par_typed.Plain.{TCatches}
use Rattle.par_program_laws.specs.par_typed.Plain.{mark}
use Rattle.par_program_laws.specs.par_typed.Nodes.{nodes, may_nodes, args_nodes, stmt_nodes}
use Rattle.par_program_laws.specs.par_typed.Nodes.{else_nodes}
use Rattle.par_program_laws.specs.par_typed.Nodes.{all_nodes}
use Rattle.par_program_laws.specs.par_typed.Nodes.{catch_nodes}
use Rattle.par_type_rules.specs.Points.{count_from, points, may_points, args_points}
use Rattle.par_type_rules.specs.Points.{stmt_points}
use Rattle.par_type_rules.specs.Points.{else_points, all_points, catch_points}
use Rattle.par_type_rules.proofs.Points.{count_more, count_append}
use Rattle.par_program_laws.specs.Kinds as kind
use Rattle.par_program_laws.specs.Kinds.{Kind, Absorber, Next}
use Rattle.par_program_laws.specs.Declares.{Declares, Method, Thrown}
use Rattle.par_program_laws.specs.Rules.{From, Entry, After, Worth, Given, Node, node, Rules, Done}
use Rattle.par_program_laws.specs.Rules.{Part}
use Rattle.par_program_laws.specs.Rules.{Test, Heads, Leaves, Worths, goes_on}
use Rattle.par_program_laws.specs.Body.{exp, args, sta, stas, catches, if_not, divides, skips}
use Rattle.par_program_laws.specs.Body.{is_forever}
use Rattle.par_program_laws.specs.Body.{thrown, called, past, args_past, args_tested}
use Rattle.par_program_laws.specs.Numbered.{next, next_by, IsNumbered, AreNumbered}

-- ---- so many points

one_more : (l n : ℕ) → l ≡ n → suc l ≡ 1 + n
one_more l n is = let same : 1 + n ≡ suc n = omega arith in ap suc is ∙ sym same

both_parts : (xs ys : List ℕ) (m n : ℕ) → length xs ≡ m → length ys ≡ n → length (xs ++ ys) ≡ m + n
both_parts xs ys m n one other =
    length-append xs ys ∙ ap (λ k. k + length ys) one ∙ ap (λ k. m + k) other

first_two : (m n : ℕ) → 1 + (m + n) ≡ 1 + m + n
first_two m n = omega arith

mutual
  unfolding points nodes

  length-points : (e : TExp) → length (points e) ≡ nodes e
  length-points (plain.Int n m) = refl
  length-points (plain.Boolean b m) = refl
  length-points (plain.Null m) = refl
  length-points (plain.This m) = refl
  length-points (plain.New class m) = refl
  length-points (plain.Local x m) = refl
  length-points (plain.Static c f m) = refl
  length-points (plain.Field e c f m) = one_more _ _ (length-points e)
  length-points (plain.Input c k m) = refl
  length-points (plain.Output c k e m) = one_more _ _ (length-points e)
  length-points (plain.Call c k o es m) =
      one_more _ _ (both_parts _ _ _ _ (length-may_points o) (length-args_points es)) ∙ first_two
      (may_nodes o) (args_nodes es)
  length-points (plain.Neg e m) = one_more _ _ (length-points e)
  length-points (plain.Not e m) = one_more _ _ (length-points e)
  length-points (plain.Binary op a b m) =
      one_more _ _ (both_parts _ _ _ _ (length-points a) (length-points b)) ∙ first_two (nodes a)
      (nodes b)

  length-may_points : (o : MayTExp) → length (may_points o) ≡ may_nodes o
  length-may_points plain.Absent = refl
  length-may_points (plain.Present e) = length-points e

  length-args_points : (es : TExps) → length (args_points es) ≡ args_nodes es
  length-args_points plain.NoExps = refl
  length-args_points (plain.More e es) =
      both_parts _ _ _ _ (length-points e) (length-args_points es)

three : (a b c : ℕ) → 1 + (a + b + c) ≡ 1 + a + b + c
three a b c = omega arith

mutual
  unfolding stmt_points stmt_nodes

  length-stmt_points : (s : TSta) → length (stmt_points s) ≡ stmt_nodes s
  length-stmt_points (plain.Block ss at p) = one_more _ _ (length-all_points ss)
  length-stmt_points (plain.If e s o at p) =
      one_more _ _
      (both_parts _ _ _ _ (both_parts _ _ _ _ (length-points e) (length-stmt_points s))
      (length-else_points o))
      ∙ three (nodes e) (stmt_nodes s) (else_nodes o)
  length-stmt_points (plain.While e s at p) =
      one_more _ _ (both_parts _ _ _ _ (length-points e) (length-stmt_points s)) ∙ first_two
      (nodes e) (stmt_nodes s)
  length-stmt_points (plain.Try s cs at p) =
      one_more _ _ (both_parts _ _ _ _ (length-stmt_points s) (length-catch_points cs)) ∙ first_two
      (stmt_nodes s) (catch_nodes cs)
  length-stmt_points (plain.Return e at p) = one_more _ _ (length-may_points e)
  length-stmt_points (plain.Break at p) = refl
  length-stmt_points (plain.Continue at p) = refl
  length-stmt_points (plain.Throw class at p) = refl
  length-stmt_points (plain.Open lock at p) = refl
  length-stmt_points (plain.Close lock at p) = refl
  length-stmt_points (plain.SetLocal x q e at p) = one_more _ _ (length-points e)
  length-stmt_points (plain.SetStatic c f e at p) = one_more _ _ (length-points e)
  length-stmt_points (plain.SetField o c f e at p) =
      one_more _ _ (both_parts _ _ _ _ (length-points o) (length-points e)) ∙ first_two (nodes o)
      (nodes e)
  length-stmt_points (plain.Eval e at p) = one_more _ _ (length-points e)
  length-stmt_points (plain.When lock s o at p) =
      one_more _ _ (both_parts _ _ _ _ (length-stmt_points s) (length-else_points o)) ∙ first_two
      (stmt_nodes s) (else_nodes o)

  length-else_points : (o : MayTSta) → length (else_points o) ≡ else_nodes o
  length-else_points plain.NoElse = refl
  length-else_points (plain.Otherwise s) = length-stmt_points s

  length-all_points : (ss : TStas) → length (all_points ss) ≡ all_nodes ss
  length-all_points plain.End = refl
  length-all_points (plain.Then s ss) =
      both_parts _ _ _ _ (length-stmt_points s) (length-all_points ss)

  length-catch_points : (cs : TCatches) → length (catch_points cs) ≡ catch_nodes cs
  length-catch_points plain.NoCatch = refl
  length-catch_points (plain.Catch class s cs) =
      both_parts _ _ _ _ (length-stmt_points s) (length-catch_points cs)

-- ---- the numbers in order, apart

first_is : (p q n : ℕ) (xs : List ℕ) → q ∷ xs ≡ count_from p (1 + n) → q ≡ p
first_is p q n xs is = let whole : q ∷ xs ≡ p ∷ count_from (p + 1) n = is ∙ count_more p n in cc

rest_are : (p q n : ℕ) (xs : List ℕ) → q ∷ xs ≡ count_from p (1 + n) → xs ≡ count_from (p + 1) n
rest_are p q n xs is = let whole : q ∷ xs ≡ p ∷ count_from (p + 1) n = is ∙ count_more p n in cc

-- a list of so many is the first part of what it begins
front_is : (xs ys us vs : List ℕ) → length xs ≡ length us → xs ++ ys ≡ us ++ vs → xs ≡ us
front_is [] ys [] vs l is = refl
front_is [] ys (u ∷ us) vs l is = absurd (cc)
front_is (x ∷ xs) ys [] vs l is = absurd (cc)
front_is (x ∷ xs) ys (u ∷ us) vs l is =
    let same : x ≡ u = cc in let more : xs ≡ us = front_is xs ys us vs (cc) (cc) in cc

back_is : (xs ys us vs : List ℕ) → length xs ≡ length us → xs ++ ys ≡ us ++ vs → ys ≡ vs
back_is [] ys [] vs l is = is
back_is [] ys (u ∷ us) vs l is = absurd (cc)
back_is (x ∷ xs) ys [] vs l is = absurd (cc)
back_is (x ∷ xs) ys (u ∷ us) vs l is = back_is xs ys us vs (cc) (cc)

length-count : (p n : ℕ) → length (count_from p n) ≡ n
unfolding count_from
length-count p zero = refl
length-count p (suc n) = ap suc (length-count (p + 1) n)

front_counts : (p m n : ℕ) (xs ys : List ℕ) → length xs ≡ m → xs ++ ys ≡ count_from p (m + n)
    → xs ≡ count_from p m
front_counts p m n xs ys l is =
    front_is xs ys (count_from p m) (count_from (p + m) n) (l ∙ sym (length-count p m))
    (is ∙ count_append p m n)

back_counts : (p m n : ℕ) (xs ys : List ℕ) → length xs ≡ m → xs ++ ys ≡ count_from p (m + n)
    → ys ≡ count_from (p + m) n
back_counts p m n xs ys l is =
    back_is xs ys (count_from p m) (count_from (p + m) n) (l ∙ sym (length-count p m))
    (is ∙ count_append p m n)

one_apart : (p q n : ℕ) (xs : List ℕ) → q ∷ xs ≡ count_from p (1 + n)
    → (q ≡ p) × (xs ≡ count_from (p + 1) n)
one_apart p q n xs is = (first_is p q n xs is, rest_are p q n xs is)

two_apart : (p q m n : ℕ) (xs ys : List ℕ) → length xs ≡ m
    → q ∷ (xs ++ ys) ≡ count_from p (1 + m + n)
    → (q ≡ p) × (xs ≡ count_from (p + 1) m) × (ys ≡ count_from (p + 1 + m) n)
two_apart p q m n xs ys l is =
    let grouped : q ∷ (xs ++ ys) ≡ count_from p (1 + (m + n)) = is ∙ ap (count_from p)
    (sym (first_two m n)) in
    let rest : xs ++ ys ≡ count_from (p + 1) (m + n) = rest_are p q (m + n) (xs ++ ys) grouped in (
      first_is p q (m + n) (xs ++ ys) grouped,
      front_counts (p + 1) m n xs ys l rest,
      back_counts
          (p + 1) m n xs ys l rest,
    )

three_apart : (p q a b c : ℕ) (xs ys zs : List ℕ) → length xs ≡ a → length ys ≡ b
    → q ∷ (xs ++ ys ++ zs) ≡ count_from p (1 + a + b + c)
    → (q ≡ p) × (xs ≡ count_from (p + 1) a) × (ys ≡ count_from (p + 1 + a) b)
    × (zs ≡ count_from (p + 1 + a + b) c)
three_apart p q a b c xs ys zs l k is =
    let grouped : 1 + a + b + c ≡ 1 + (a + b) + c = omega arith in
    let on : p + 1 + (a + b) ≡ p + 1 + a + b = omega arith in
    let apart = two_apart p q (a + b) c (xs ++ ys) zs (both_parts xs ys a b l k)
    (is ∙ ap (count_from p) grouped) in (
      apart.0,
      front_counts (p + 1) a b xs ys l apart.1,
      back_counts (p + 1) a b xs ys l apart.1,
      apart.2 ∙ ap (λ j. count_from j c) on,
    )

-- ---- rules whose parts have numbers in order

-- a node with numbers from n to before k
record Counts (n k : ℕ) (t : Node) : Type 0 where
  numbered : IsNumbered n t
  ends : next t ≡ k

record CountsBy (n k : ℕ) (rules : Rules) : Type 0 where
  numbered : AreNumbered n rules
  ends : next_by n rules ≡ k

whole : (n m k : ℕ) (q : ℕ) (rules : Rules) → q ≡ n → CountsBy (n + 1) m rules → m ≡ k
    → Counts n k (node q rules)
unfolding IsNumbered next
whole n m k q rules is c same =
    let here : n + 1 ≡ suc q = omega arith in
    let on : CountsBy (suc q) m rules = subst (λ j. CountsBy j m rules) here c in
    record { numbered = (is, on.numbered); ends = on.ends ∙ same }

done : (n : ℕ) → CountsBy n n Done
unfolding IsNumbered next
done n = record { numbered = tt; ends = refl }

part : (n m k : ℕ) (from : From) (a : Absorber) (t : Node) (more : Rules) → Counts n m t
    → CountsBy m k more → CountsBy n k (Part from a t more)
unfolding IsNumbered next
part n m k from a t more c rest =
    let on : CountsBy (next t) k more = subst (λ j. CountsBy j k more) (sym c.ends) rest in
    record { numbered = (c.numbered, on.numbered); ends = on.ends }

test : (n m k : ℕ) (t : Node) (more : Rules) → Counts n m t → CountsBy m k more
    → CountsBy n k (Test t more)
unfolding IsNumbered next
test n m k t more c rest =
    let on : CountsBy (next t) k more = subst (λ j. CountsBy j k more) (sym c.ends) rest in
    record { numbered = (c.numbered, on.numbered); ends = on.ends }

heads : (n k : ℕ) (from : From) (more : Rules) → CountsBy n k more → CountsBy n k (Heads from more)
unfolding IsNumbered next
heads n k from more c = record { numbered = c.numbered; ends = c.ends }

leaves : (n k : ℕ) (from : From) (kind : Kind) (more : Rules) → CountsBy n k more
    → CountsBy n k (Leaves from kind more)
unfolding IsNumbered next
leaves n k from kind more c = record { numbered = c.numbered; ends = c.ends }

worths : (n k : ℕ) (v : Worth) (more : Rules) → CountsBy n k more → CountsBy n k (Worths v more)
unfolding IsNumbered next
worths n k v more c = record { numbered = c.numbered; ends = c.ends }

-- it goes on, and nothing is behind
goes : (n : ℕ) (from : From) → CountsBy n n (goes_on from Done)
goes n from = leaves n n from kind.Normal Done (done n)

unless : (n k : ℕ) (b : Bool) (from : From) (kind : Kind) (more : Rules) → CountsBy n k more
    → CountsBy n k (if_not b (Leaves from kind) more)
unless n k true from kind more c = c
unless n k false from kind more c = leaves n k from kind more c

divides_counts : (n k : ℕ) (o : BinOp) (e : TExp) (more : Rules) → CountsBy n k more
    → CountsBy n k (divides o e more)
divides_counts n k op.Div e more c = unless n k _ _ _ more c
divides_counts n k op.Rem e more c = unless n k _ _ _ more c
divides_counts n k op.Or e more c = c
divides_counts n k op.And e more c = c
divides_counts n k op.BitOr e more c = c
divides_counts n k op.BitXor e more c = c
divides_counts n k op.BitAnd e more c = c
divides_counts n k op.Eq e more c = c
divides_counts n k op.Ne e more c = c
divides_counts n k op.Lt e more c = c
divides_counts n k op.Le e more c = c
divides_counts n k op.Gt e more c = c
divides_counts n k op.Ge e more c = c
divides_counts n k op.Shl e more c = c
divides_counts n k op.Shr e more c = c
divides_counts n k op.Ushr e more c = c
divides_counts n k op.Add e more c = c
divides_counts n k op.Sub e more c = c
divides_counts n k op.Mul e more c = c

skips_counts : (n k : ℕ) (o : BinOp) (more : Rules) → CountsBy n k more
    → CountsBy n k (skips o more)
skips_counts n k op.And more c = leaves n k _ _ more c
skips_counts n k op.Or more c = leaves n k _ _ more c
skips_counts n k op.Div more c = c
skips_counts n k op.Rem more c = c
skips_counts n k op.BitOr more c = c
skips_counts n k op.BitXor more c = c
skips_counts n k op.BitAnd more c = c
skips_counts n k op.Eq more c = c
skips_counts n k op.Ne more c = c
skips_counts n k op.Lt more c = c
skips_counts n k op.Le more c = c
skips_counts n k op.Gt more c = c
skips_counts n k op.Ge more c = c
skips_counts n k op.Shl more c = c
skips_counts n k op.Shr more c = c
skips_counts n k op.Ushr more c = c
skips_counts n k op.Add more c = c
skips_counts n k op.Sub more c = c
skips_counts n k op.Mul more c = c

module _ (d : Declares) where
  thrown_counts : (n k : ℕ) (m : Method) (from : From) (ts : List Thrown) (more : Rules)
      → CountsBy n k more → CountsBy n k (thrown d m from ts more)
  thrown_counts n k m from [] more c = c
  thrown_counts n k m from (t ∷ ts) more c = leaves n k _ _ _ (thrown_counts n k m from ts more c)

  called_counts : (n : ℕ) (m : Method) (from : From) → CountsBy n n (called d m from)
  called_counts n m from =
      thrown_counts n n m from m.throws _ (leaves n n _ kind.Normal _ (worths n n (Given m.result)
      Done (done n)))

  -- ---- expressions

  alone : (p q : ℕ) (rules : Rules) → q ∷ [] ≡ count_from p 1 → CountsBy (p + 1) (p + 1) rules
      → Counts p (p + 1) (node q rules)
  alone p q rules is c = whole p (p + 1) (p + 1) q rules (first_is p q 0 [] is) c refl

  one_inside : (p n : ℕ) → p + 1 + n ≡ p + (1 + n)
  one_inside p n = omega arith

  two_inside : (p m n : ℕ) → p + 1 + m + n ≡ p + (1 + m + n)
  two_inside p m n = omega arith

  mutual
    unfolding points nodes exp

    exp_counts : (p : ℕ) (e : TExp) → points e ≡ count_from p (nodes e)
        → Counts p (p + nodes e) (exp d e)
    exp_counts p (plain.Int n m) is = alone p m.point _ is (goes (p + 1) Entry)
    exp_counts p (plain.Boolean b m) is = alone p m.point _ is (goes (p + 1) Entry)
    exp_counts p (plain.Null m) is = alone p m.point _ is (goes (p + 1) Entry)
    exp_counts p (plain.This m) is = alone p m.point _ is (goes (p + 1) Entry)
    exp_counts p (plain.New class m) is =
        alone p m.point _ is (leaves _ _ _ _ _ (worths _ _ _ _ (done (p + 1))))
    exp_counts p (plain.Local x m) is =
        alone p m.point _ is (leaves _ _ _ _ _ (worths _ _ _ _ (done (p + 1))))
    exp_counts p (plain.Static c f m) is =
        alone p m.point _ is (leaves _ _ _ _ _ (worths _ _ _ _ (done (p + 1))))
    exp_counts p (plain.Field e c f m) is =
        whole p (p + 1 + nodes e) _ m.point _ (one_apart p m.point (nodes e) _ is).0
        (part _ _ _ _ _ _ _ (exp_counts (p + 1) e (one_apart p m.point (nodes e) _ is).1)
        (unless _ _ (mark e).sure _ _ _
        (leaves _ _ _ _ _ (worths _ _ _ _ (worths _ _ _ _ (done _))))))
        (one_inside p (nodes e))
    exp_counts p (plain.Input c k m) is =
        alone p m.point _ is (leaves _ _ _ _ _ (worths _ _ _ _ (done (p + 1))))
    exp_counts p (plain.Output c k e m) is =
        whole p (p + 1 + nodes e) _ m.point _ (one_apart p m.point (nodes e) _ is).0
        (part _ _ _ _ _ _ _ (exp_counts (p + 1) e (one_apart p m.point (nodes e) _ is).1)
        (goes _ past))
        (one_inside p (nodes e))
    exp_counts p (plain.Call c k plain.Absent es m) is =
        let apart = one_apart p m.point (args_nodes es) _ is in
        whole p (p + 1 + args_nodes es) _ m.point _ apart.0
        (args_counts (p + 1) _ Entry es _ apart.1 (called_counts (p + 1 + args_nodes es)
        (d.method c k) (args_past Entry es)))
        (one_inside p (args_nodes es))
    exp_counts p (plain.Call c k (plain.Present e) es m) is =
        let apart = two_apart p m.point (nodes e) (args_nodes es) (points e) (args_points es)
        (length-points e) is in
        whole p (p + 1 + nodes e + args_nodes es) _ m.point _ apart.0
        (part _ _ _ _ _ _ _ (exp_counts (p + 1) e apart.1)
        (args_counts (p + 1 + nodes e) _ past es _ apart.2
        (unless _ _ (mark e).sure _ _ _
        (worths _ _ _ _ (called_counts (p + 1 + nodes e + args_nodes es) (d.method c k)
        (args_tested es))))))
        (two_inside p (nodes e) (args_nodes es))
    exp_counts p (plain.Neg e m) is =
        whole p (p + 1 + nodes e) _ m.point _ (one_apart p m.point (nodes e) _ is).0
        (part _ _ _ _ _ _ _ (exp_counts (p + 1) e (one_apart p m.point (nodes e) _ is).1)
        (leaves _ _ _ _ _ (worths _ _ _ _ (done _))))
        (one_inside p (nodes e))
    exp_counts p (plain.Not e m) is =
        whole p (p + 1 + nodes e) _ m.point _ (one_apart p m.point (nodes e) _ is).0
        (part _ _ _ _ _ _ _ (exp_counts (p + 1) e (one_apart p m.point (nodes e) _ is).1)
        (leaves _ _ _ _ _ (worths _ _ _ _ (done _))))
        (one_inside p (nodes e))
    exp_counts p (plain.Binary o a b m) is =
        let apart = two_apart p m.point (nodes a) (nodes b) (points a) (points b) (length-points a)
        is in
        whole p (p + 1 + nodes a + nodes b) _ m.point _ apart.0
        (part _ _ _ _ _ _ _ (exp_counts (p + 1) a apart.1)
        (part _ _ _ _ _ _ _ (exp_counts (p + 1 + nodes a) b apart.2)
        (divides_counts _ _ o b _ (skips_counts _ _ o _
        (leaves _ _ _ _ _ (worths _ _ _ _ (worths _ _ _ _ (done _))))))))
        (two_inside p (nodes a) (nodes b))

    args_counts : (p k : ℕ) (from : From) (es : TExps) (more : Rules)
        → args_points es ≡ count_from p (args_nodes es)
        → CountsBy (p + args_nodes es) k more → CountsBy p k (args d from es more)
    args_counts p k from plain.NoExps more is c = let none : p + 0 ≡ p = omega arith in subst
        (λ j. CountsBy j k more) none c
    args_counts p k from (plain.More e es) more is c =
        part _ _ _ _ _ _ _ (exp_counts p e (front_counts p (nodes e) (args_nodes es) (points e)
        (args_points es) (length-points e) is))
        (args_counts (p + nodes e) k past es more
        (back_counts p (nodes e) (args_nodes es) (points e) (args_points es) (length-points e) is)
        (let same : p + (nodes e + args_nodes es) ≡ p + nodes e + args_nodes es = omega arith in
        subst (λ j. CountsBy j k more) same c))

  -- ---- statements

  three_inside : (p a b c : ℕ) → p + 1 + a + b + c ≡ p + (1 + a + b + c)
  three_inside p a b c = omega arith

  none_else : (p a b : ℕ) → p + 1 + a + b ≡ p + (1 + a + b + 0)
  none_else p a b = omega arith

  none_other : (p a : ℕ) → p + 1 + a ≡ p + (1 + a + 0)
  none_other p a = omega arith

  -- a statement of one part
  simple : (p q : ℕ) (from : From) (e : TExp) (more : Rules)
      → q ∷ points e ≡ count_from p (1 + nodes e)
      → CountsBy (p + 1 + nodes e) (p + 1 + nodes e) more
      → Counts p (p + (1 + nodes e)) (node q (Part from Next (exp d e) more))
  simple p q from e more is c =
      let apart = one_apart p q (nodes e) _ is in
      whole p (p + 1 + nodes e) _ q _ apart.0 (part _ _ _ _ _ _ _ (exp_counts (p + 1) e apart.1) c)
      (one_inside p (nodes e))

  mutual
    unfolding stmt_points stmt_nodes points nodes sta

    sta_counts : (p : ℕ) (s : TSta) → stmt_points s ≡ count_from p (stmt_nodes s)
        → Counts p (p + stmt_nodes s) (sta d s)
    sta_counts p (plain.Block ss at q) is =
        let apart = one_apart p q (all_nodes ss) _ is in
        whole p (p + 1 + all_nodes ss) _ q _ apart.0 (stas_counts (p + 1) Entry ss apart.1)
        (one_inside p (all_nodes ss))
    sta_counts p (plain.If e s plain.NoElse at q) is =
        let apart = three_apart p q (nodes e) (stmt_nodes s) 0 (points e) (stmt_points s) []
        (length-points e) (length-stmt_points s) is in
        whole p (p + 1 + nodes e + stmt_nodes s) _ q _ apart.0
        (part _ _ _ _ _ _ _ (exp_counts (p + 1) e apart.1)
        (leaves _ _ _ _ _ (part _ _ _ _ _ _ _ (sta_counts (p + 1 + nodes e) s apart.2)
        (goes _ past))))
        (none_else p (nodes e) (stmt_nodes s))
    sta_counts p (plain.If e s (plain.Otherwise t) at q) is =
        let apart = three_apart p q (nodes e) (stmt_nodes s) (stmt_nodes t) (points e)
        (stmt_points s) (stmt_points t) (length-points e) (length-stmt_points s) is in
        whole p (p + 1 + nodes e + stmt_nodes s + stmt_nodes t) _ q _ apart.0
        (part _ _ _ _ _ _ _ (exp_counts (p + 1) e apart.1)
        (part _ _ _ _ _ _ _ (sta_counts (p + 1 + nodes e) s apart.2)
        (leaves _ _ _ _ _ (part _ _ _ _ _ _ _ (sta_counts (p + 1 + nodes e + stmt_nodes s) t
        apart.3) (goes _ past)))))
        (three_inside p (nodes e) (stmt_nodes s) (stmt_nodes t))
    sta_counts p (plain.While e s at q) is =
        let apart = two_apart p q (nodes e) (stmt_nodes s) (points e) (stmt_points s)
        (length-points e) is in
        whole p (p + 1 + nodes e + stmt_nodes s) _ q _ apart.0
        (test _ _ _ _ _ (exp_counts (p + 1) e apart.1)
        (heads _ _ _ _
        (unless _ _ (is_forever e) _ _ _
        (part _ _ _ _ _ _ _ (sta_counts (p + 1 + nodes e) s apart.2)
        (heads _ _ _ _ (heads _ _ _ _ (goes _ (After 0 kind.Break))))))))
        (two_inside p (nodes e) (stmt_nodes s))
    sta_counts p (plain.Try s cs at q) is =
        let apart = two_apart p q (stmt_nodes s) (catch_nodes cs) (stmt_points s) (catch_points cs)
        (length-stmt_points s) is in
        whole p (p + 1 + stmt_nodes s + catch_nodes cs) _ q _ apart.0
        (part _ _ _ _ _ _ _ (sta_counts (p + 1) s apart.1)
        (leaves _ _ _ _ _ (catches_counts (p + 1 + stmt_nodes s) (sta d s) cs zero apart.2)))
        (two_inside p (stmt_nodes s) (catch_nodes cs))
    sta_counts p (plain.Return plain.Absent at q) is =
        alone p q _ is (leaves _ _ _ _ _ (done (p + 1)))
    sta_counts p (plain.Return (plain.Present e) at q) is =
        simple p q Entry e _ is (leaves _ _ _ _ _ (done _))
    sta_counts p (plain.Break at q) is = alone p q _ is (leaves _ _ _ _ _ (done (p + 1)))
    sta_counts p (plain.Continue at q) is = alone p q _ is (leaves _ _ _ _ _ (done (p + 1)))
    sta_counts p (plain.Throw class at q) is = alone p q _ is (leaves _ _ _ _ _ (done (p + 1)))
    sta_counts p (plain.Open lock at q) is = alone p q _ is (leaves _ _ _ _ _ (done (p + 1)))
    sta_counts p (plain.Close lock at q) is = alone p q _ is (leaves _ _ _ _ _ (done (p + 1)))
    sta_counts p (plain.SetLocal x policy e at q) is =
        simple p q Entry e _ is (leaves _ _ _ _ _ (done _))
    sta_counts p (plain.SetStatic c f e at q) is =
        simple p q Entry e _ is (leaves _ _ _ _ _ (done _))
    sta_counts p (plain.SetField o c f e at q) is =
        let apart = two_apart p q (nodes o) (nodes e) (points o) (points e) (length-points o) is in
        whole p (p + 1 + nodes o + nodes e) _ q _ apart.0
        (part _ _ _ _ _ _ _ (exp_counts (p + 1) o apart.1)
        (part _ _ _ _ _ _ _ (exp_counts (p + 1 + nodes o) e apart.2) (unless _ _ (mark o).sure _ _ _
        (goes _ past))))
        (two_inside p (nodes o) (nodes e))
    sta_counts p (plain.Eval e at q) is = simple p q Entry e _ is (leaves _ _ _ _ _ (done _))
    sta_counts p (plain.When lock s plain.NoElse at q) is =
        let apart = two_apart p q (stmt_nodes s) 0 (stmt_points s) [] (length-stmt_points s) is in
        whole p (p + 1 + stmt_nodes s) _ q _ apart.0
        (leaves _ _ _ _ _ (part _ _ _ _ _ _ _ (sta_counts (p + 1) s apart.1) (goes _ past)))
        (none_other p (stmt_nodes s))
    sta_counts p (plain.When lock s (plain.Otherwise t) at q) is =
        let apart = two_apart p q (stmt_nodes s) (stmt_nodes t) (stmt_points s) (stmt_points t)
        (length-stmt_points s) is in
        whole p (p + 1 + stmt_nodes s + stmt_nodes t) _ q _ apart.0
        (part _ _ _ _ _ _ _ (sta_counts (p + 1) s apart.1)
        (leaves _ _ _ _ _ (part _ _ _ _ _ _ _ (sta_counts (p + 1 + stmt_nodes s) t apart.2)
        (goes _ past))))
        (two_inside p (stmt_nodes s) (stmt_nodes t))

    stas_counts : (p : ℕ) (from : From) (ss : TStas) → all_points ss ≡ count_from p (all_nodes ss)
        → CountsBy p (p + all_nodes ss) (stas d from ss)
    stas_counts p from plain.End is = let same : p ≡ p + 0 = omega arith in subst
        (λ k. CountsBy p k (goes_on from Done)) same (goes p from)
    stas_counts p from (plain.Then s ss) is =
        let same : p + stmt_nodes s + all_nodes ss ≡ p + (stmt_nodes s + all_nodes ss) =
        omega arith in
        part _ _ _ _ _ _ _ (sta_counts p s (front_counts p (stmt_nodes s) (all_nodes ss)
        (stmt_points s) (all_points ss) (length-stmt_points s) is))
        (subst (λ k. CountsBy (p + stmt_nodes s) k (stas d past ss)) same
        (stas_counts (p + stmt_nodes s) past ss
        (back_counts p (stmt_nodes s) (all_nodes ss) (stmt_points s) (all_points ss)
        (length-stmt_points s) is)))

    catches_counts : (p : ℕ) (block : Node) (cs : TCatches) (before : ℕ)
        → catch_points cs ≡ count_from p (catch_nodes cs)
        → CountsBy p (p + catch_nodes cs) (catches d block cs before)
    catches_counts p block plain.NoCatch before is = let same : p ≡ p + 0 = omega arith in subst
        (λ k. CountsBy p k Done) same (done p)
    catches_counts p block (plain.Catch class s cs) before is =
        let same : p + stmt_nodes s + catch_nodes cs ≡ p + (stmt_nodes s + catch_nodes cs) =
        omega arith in
        part _ _ _ _ _ _ _ (sta_counts p s (front_counts p (stmt_nodes s) (catch_nodes cs)
        (stmt_points s) (catch_points cs) (length-stmt_points s) is))
        (leaves _ _ _ _ _
        (subst (λ k. CountsBy (p + stmt_nodes s) k (catches d block cs (suc before))) same
        (catches_counts (p + stmt_nodes s) block cs (suc before)
        (back_counts p (stmt_nodes s) (catch_nodes cs) (stmt_points s) (catch_points cs)
        (length-stmt_points s) is))))

  -- the points of a body are the numbers in order: its nodes are numbered
  pub numbered : (s : TSta) → stmt_points s ≡ count_from 0 (stmt_nodes s) → IsNumbered 0 (sta d s)
  numbered s is = (sta_counts 0 s is).numbered
