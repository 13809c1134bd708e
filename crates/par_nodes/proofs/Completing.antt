-- Completions in lists.
use Rattle.std.proofs.Common.{◌≡◌, ℕ, zero, suc, ◌+◌, ◌-◌, ◌<◌, ◌≤◌, Bool, true, false, ◌||◌, ◌&&◌}
use Rattle.std.proofs.Common.{not, Option, Some, None, List, [], ◌∷◌, ◌++◌, length, get_or, drop}
use Rattle.std.proofs.Common.{set, take, map, drop-cons, take-suc, take_all, get_or-set_same}
use Rattle.std.proofs.Common.{add-one}
use Rattle.std.proofs.Common.{refl, sym, ap, ◌∙◌, arith}
use Rattle.std.proofs.lemmas.List.{drop-set, take-set}
use Rattle.std.proofs.lemmas.Bool.{eqb-true}
use Rattle.std.proofs.Math.Path.{fun_ext}
use Rattle.par_program_laws.specs.Kinds.{Kind, Normal, Return, Break, Continue, Throw, same}
use Rattle.par_program_laws.specs.Kinds.{Absorber}
use Rattle.par_program_laws.specs.Kinds.{absorbed, Next}
use Rattle.par_program_laws.specs.Rules.{From, Worth, Node, node, Rules, Done, Part, Test, Heads}
use Rattle.par_program_laws.specs.Rules.{Leaves}
use Rattle.par_program_laws.specs.Rules.{Worths, part_can, comes, can, can_by}
use Rattle.par_nodes.specs.declared.rule.Kind as code
use Rattle.par_nodes.specs.declared.rule.Origin.{Origin}
use Rattle.par_nodes.specs.declared.rule.Start.TheVariants as start
use Rattle.par_nodes.specs.declared.rule.Locks.{Locks}
use Rattle.par_nodes.specs.declared.rule.Locks.TheVariants as locks
use Rattle.std.specs.declared.boxed.Box.{Box}
use Rattle.std.specs.declared.alloc.Global.{Global}
use Rattle.par_nodes.specs.declared.rule.Absorber as tree_absorber
use Rattle.par_nodes.specs.declared.rule.Worth as tree_worth
use Rattle.par_nodes.specs.declared.rule.Node as tree_node
use Rattle.par_nodes.specs.declared.rule.Rules as tree
use Rattle.par_nodes.specs.declared.rule.Rules.TheVariants as rule
use Rattle.par_nodes.proofs.Rows.{drop_all}
use Rattle.par_nodes.proofs.Forms.{seen_done, seen_part, seen_test, seen_heads, seen_leaves}
use Rattle.par_nodes.proofs.Forms.{seen_worths, seen_ends, seen_gives, seen_joins}
use Rattle.par_nodes.specs.Seen.{seen_absorber, seen_worth, seen_node, seen_rules}
use Rattle.par_nodes.specs.Seen.{seen_kind, seen_start, seen_origin, assigned, tested, raised, shut}
use Rattle.par_nodes.specs.Seen.{opened}
use Rattle.par_nodes.specs.Listed.{listed}
use Rattle.par_nodes.specs.Possible.{among, either, if_so, apart, cans, coming, passed}
use Rattle.par_nodes.specs.Possible.{parts_can}

or_false : (a : Bool) → (a || false) ≡ a
or_false true = refl
or_false false = refl

and_true : (a : Bool) → (a && true) ≡ a
and_true true = refl
and_true false = refl

keep_step : (a s t b : Bool) → ((a || (s && b)) || (t && b)) ≡ (a || ((s || t) && b))
keep_step true s t b = refl
keep_step false true true true = refl
keep_step false true false true = refl
keep_step false false t true = refl
keep_step false true true false = refl
keep_step false true false false = refl
keep_step false false t false = refl

or_assoc : (a b c : Bool) → ((a || b) || c) ≡ (a || (b || c))
or_assoc true b c = refl
or_assoc false b c = refl

pub cans_push : (parts : List (List code.Kind)) (js : List code.Kind) (fs : List (Kind → Bool))
    → cans (parts ++ js ∷ []) fs ≡ among js ∷ cans parts fs
cans_push [] js fs = refl
cans_push (x ∷ parts) js fs = cans_push parts js (among x ∷ fs)

-- a part that is passed, and none behind the first one
pub passed_at : (parts : List (List code.Kind)) (place n i : ℕ) (k : Kind) (js : List code.Kind)
    → i ≡ place + n → i < length parts → js ≡ get_or parts i js
    → part_can (passed place parts) n k ≡ among js k
passed_at [] place n i k js e h q = absurd (omega (arith, h))
passed_at (x ∷ parts) zero zero zero k js e h q = ap (λ l. among l k) (sym q)
passed_at (x ∷ parts) zero zero (suc i) k js e h q = absurd (omega (arith, e))
passed_at (x ∷ parts) zero (suc n) zero k js e h q = absurd (omega (arith, e))
passed_at (x ∷ parts) zero (suc n) (suc i) k js e h q =
    passed_at parts zero n i k js (omega (arith, e)) (omega (arith, h)) q
passed_at (x ∷ parts) (suc place) n zero k js e h q = absurd (omega (arith, e))
passed_at (x ∷ parts) (suc place) n (suc i) k js e h q =
    passed_at parts place n i k js (omega (arith, e)) (omega (arith, h)) q

pub passed_past : (parts : List (List code.Kind)) (place n : ℕ) (k : Kind)
    → length parts ≤ place + n → part_can (passed place parts) n k ≡ false
passed_past [] zero n k h = refl
passed_past [] (suc place) n k h = refl
passed_past (x ∷ parts) zero zero k h = absurd (omega (arith, h))
passed_past (x ∷ parts) zero (suc n) k h = passed_past parts zero n k (omega (arith, h))
passed_past (x ∷ parts) (suc place) n k h = passed_past parts place n k (omega (arith, h))

-- the next part is the last of those that come
coming_more : (parts : List (List code.Kind)) (place : ℕ) (js : List code.Kind)
    → place < length parts
    → coming (suc place) parts ≡ among (get_or parts place js) ∷ coming place parts
coming_more parts place js h =
    ap (λ l. cans l []) (take-suc parts place js h)
    ∙ cans_push (take place parts) (get_or parts place js) []

comes_opened : (fs : List (Kind → Bool)) (l : Locks) (f : From) → comes fs (opened l f) ≡ comes fs f
unfolding comes
comes_opened fs locks.Kept f = refl
comes_opened fs locks.Nothing f = refl
comes_opened fs (locks.One n) f = refl
comes_opened fs (locks.All s) f = refl

comes_shut : (fs : List (Kind → Bool)) (l : Locks) (f : From) → comes fs (shut l f) ≡ comes fs f
unfolding comes
comes_shut fs locks.Kept f = refl
comes_shut fs locks.Nothing f = refl
comes_shut fs (locks.One n) f = refl
comes_shut fs (locks.All s) f = refl

comes_raised : (fs : List (Kind → Bool)) (o : Option ℕ) (f : From)
    → comes fs (raised o f) ≡ comes fs f
unfolding comes
comes_raised fs None f = refl
comes_raised fs (Some n) f = refl

comes_tested : (fs : List (Kind → Bool)) (o : Option ℕ) (f : From)
    → comes fs (tested o f) ≡ comes fs f
unfolding comes
comes_tested fs None f = refl
comes_tested fs (Some n) f = refl

comes_assigned : (fs : List (Kind → Bool)) (o : Option (ℕ × ℕ)) (f : From)
    → comes fs (assigned o f) ≡ comes fs f
unfolding comes
comes_assigned fs None f = refl
comes_assigned fs (Some n) f = refl

-- whether a way comes is told by its start
pub comes_start : (fs : List (Kind → Bool)) (o : Origin)
    → comes fs (seen_origin o) ≡ comes fs (seen_start o.start)
comes_start fs o =
    comes_opened fs o.opened _ ∙ comes_shut fs o.shut _ ∙ comes_raised fs o.raised _
    ∙ comes_tested fs o.tested _ ∙ comes_assigned fs o.assigned (seen_start o.start)

pub comes_entry : (fs : List (Kind → Bool)) (o : Origin) → o.start ≡ start.Entry
    → comes fs (seen_origin o) ≡ true
unfolding comes
comes_entry fs o e = comes_start fs o ∙ ap (λ s. comes fs (seen_start s)) e

pub comes_after : (fs : List (Kind → Bool)) (o : Origin) (n : ℕ) (k : code.Kind)
    → o.start ≡ start.After n k → comes fs (seen_origin o) ≡ part_can fs n (seen_kind k)
unfolding comes
comes_after fs o n k e = comes_start fs o ∙ ap (λ s. comes fs (seen_start s)) e

same_true : (k j : Kind) → same k j ≡ true → k ≡ j
same_true Normal Normal e = refl
same_true Return Return e = refl
same_true Break Break e = refl
same_true Continue Continue e = refl
same_true (Throw c) (Throw d) e = ap Throw (eqb-true c d e)
same_true _ _ e = cc

-- an absorbed completion is none
pub taken : (a : Absorber) (j : Kind) (f : Kind → Bool) → absorbed a j ≡ true
    → f ≡ either f (apart a (same j))
taken a j f e = fun_ext (λ k. by_case k (same j k) refl) where
  by_case : (k : Kind) (b : Bool) → same j k ≡ b → f k ≡ (f k || (same j k && not (absorbed a k)))
  by_case k true h =
      let g : absorbed a k ≡ true = ap (absorbed a) (sym (same_true j k h)) ∙ e in
      sym (ap (λ b. f k || (same j k && not b)) g ∙ ap (λ b. f k || (b && false)) h
      ∙ or_false (f k))
  by_case k false h = sym (ap (λ b. f k || (b && not (absorbed a k))) h ∙ or_false (f k))

among_push : (ks : List code.Kind) (j : code.Kind) → among (ks ++ j ∷ []) ≡ either (among ks)
    (same (seen_kind j))
among_push ks j = fun_ext (λ k. push ks k) where
  push : (ks : List code.Kind) (k : Kind) → among (ks ++ j ∷ []) k ≡
      (among ks k || same (seen_kind j) k)
  push [] k = or_false (same (seen_kind j) k)
  push (x ∷ ks) k =
      ap (λ b. same (seen_kind x) k || b) (push ks k) ∙ sym
      (or_assoc (same (seen_kind x) k) (among ks k) (same (seen_kind j) k))

pub pushed : (ks js : List code.Kind) (j : code.Kind) → js ≡ ks ++ j ∷ []
    → among js ≡ either (among ks) (same (seen_kind j))
pushed ks js j e = ap among e ∙ among_push ks j

-- another one is kept
pub left : (a : Absorber) (j : Kind) (f : Kind → Bool) → absorbed a j ≡ false
    → either f (same j) ≡ either f (apart a (same j))
left a j f e = fun_ext (λ k. by_case k (same j k) refl) where
  by_case : (k : Kind) (b : Bool) → same j k ≡ b → (f k || same j k) ≡
      (f k || (same j k && not (absorbed a k)))
  by_case k true h =
      let g : absorbed a k ≡ false = ap (absorbed a) (sym (same_true j k h)) ∙ e in
      sym (ap (λ b. f k || (same j k && not b)) g ∙ ap (λ b. f k || b) (and_true (same j k)))
  by_case k false h = ap (λ b. f k || b) (h ∙ sym (ap (λ b. b && not (absorbed a k)) h))

-- one of the completions is the normal one, or one of the others
pub listed_has : (b : Bool) (js : List code.Kind) (k : Kind)
    → among (listed b js) k ≡ ((b && same Normal k) || among js k)
listed_has true js k = refl
listed_has false js k = refl

-- another completion is there from now on
pub other_added : (b : Bool) (js ks : List code.Kind) (k : Kind)
    → among ks ≡ either (among js) (same k)
    → among (listed b ks) ≡ either (among (listed b js)) (same k)
other_added true js ks k e =
    ap (λ f. either (same Normal) f) e
    ∙ fun_ext (λ j. sym (or_assoc (same Normal j) (among js j) (same k j)))
other_added false js ks k e = e

-- the normal completion of a part, and the others
pub part_kept : (a : Absorber) (b : Bool) (js xs : List code.Kind) (k0 k1 k2 : Kind → Bool)
    → b ≡ true → xs ≡ js → k1 ≡ either k0 (apart a (same Normal))
    → k2 ≡ either k1 (apart a (among xs)) → k2 ≡ either k0 (apart a (among (listed b js)))
part_kept a b js xs k0 k1 k2 t x g h =
    h ∙ ap (λ f. either f (apart a (among xs))) g
    ∙ ap (λ l. either (either k0 (apart a (same Normal))) (apart a (among l))) x
    ∙ fun_ext (λ k. keep_step (k0 k) (same Normal k) (among js k) (not (absorbed a k)))
    ∙ sym (ap (λ c. either k0 (apart a (among (listed c js)))) t)

-- one more of those that were found
pub kept_next : (a : Absorber) (js : List code.Kind) (i : ℕ) (d : code.Kind)
    (k0 k1 g : Kind → Bool) → i < length js
    → k1 ≡ either k0 (apart a (same (seen_kind (get_or js i d))))
    → either k0 (apart a (among (drop i js))) ≡ g → either k1
    (apart a (among (drop (i + 1) js))) ≡ g
kept_next a js i d k0 k1 g h e f =
    ap (λ k. either k (apart a (among (drop (i + 1) js)))) e
    ∙ fun_ext (λ k. keep_step (k0 k) (same (seen_kind (get_or js i d)) k)
    (among (drop (i + 1) js) k) (not (absorbed a k)))
    ∙ ap (λ l. either k0 (apart a (among l))) (sym (drop-cons js i d h
    ∙ ap (λ n. get_or js i d ∷ drop n js) (sym (add-one i)))) ∙ f

pub kept_all : (a : Absorber) (js : List code.Kind) (i : ℕ) (k0 g : Kind → Bool) → length js ≤ i
    → either k0 (apart a (among (drop i js))) ≡ g → k0 ≡ g
kept_all a js i k0 g h e =
    fun_ext (λ k. sym (or_false (k0 k))) ∙ ap (λ l. either k0 (apart a (among l)))
    (sym (drop_past js i h)) ∙ e where
      drop_past : (js : List code.Kind) (i : ℕ) → length js ≤ i → drop i js ≡ []
      drop_past [] zero h = refl
      drop_past [] (suc i) h = refl
      drop_past (x ∷ js) zero h = absurd (omega (arith, h))
      drop_past (x ∷ js) (suc i) h = drop_past js i (omega (arith, h))

-- a part's completions, and those of what is behind
part_step : (fs more_fs : List (Kind → Bool)) (from : From) (a : Absorber) (n : Node) (more : Rules)
    (k0 k1 k2 : Kind → Bool) (b : Bool)
    → b ≡ comes fs from → more_fs ≡ if_so b (can n) ∷ fs
    → k1 ≡ either k0 (apart a (if_so b (can n))) → k2 ≡ either k1 (can_by more_fs more)
    → k2 ≡ either k0 (can_by fs (Part from a n more))
unfolding can_by
part_step fs more_fs from a n more k0 k1 k2 b e q g h =
    h ∙ ap (λ x. either x (can_by more_fs more))
    (g ∙ ap (λ c. either k0 (apart a (if_so c (can n)))) e)
    ∙ ap (λ x. either (either k0 (apart a (if_so (comes fs from) (can n)))) (can_by x more))
    (q ∙ ap (λ c. if_so c (can n) ∷ fs) e)
    ∙ fun_ext (λ k. or_assoc (k0 k) _ _)

test_step : (fs more_fs : List (Kind → Bool)) (n : Node) (more : Rules) (k0 k1 k2 : Kind → Bool)
    → more_fs ≡ if_so true (can n) ∷ fs → k1 ≡ either k0 (apart Next (if_so true (can n)))
    → k2 ≡ either k1 (can_by more_fs more) → k2 ≡ either k0 (can_by fs (Test n more))
unfolding can_by
test_step fs more_fs n more k0 k1 k2 q g h =
    h ∙ ap (λ x. either x (can_by more_fs more)) g
    ∙ ap (λ x. either (either k0 (apart Next (can n))) (can_by x more)) q
    ∙ fun_ext (λ k. or_assoc (k0 k) _ _)

pub leaves_step : (fs : List (Kind → Bool)) (from : From) (j : Kind) (more : Rules)
    (k0 k1 k2 : Kind → Bool) (b : Bool)
    → b ≡ comes fs from → k1 ≡ either k0 (if_so b (same j))
    → k2 ≡ either k1 (can_by fs more) → k2 ≡ either k0 (can_by fs (Leaves from j more))
unfolding can_by
leaves_step fs from j more k0 k1 k2 b e g h =
    h ∙ ap (λ x. either x (can_by fs more)) (g ∙ ap (λ c. either k0 (if_so c (same j))) e)
    ∙ fun_ext (λ k. or_assoc (k0 k) _ _)

pub done_step : (fs : List (Kind → Bool)) (k0 : Kind → Bool) → k0 ≡ either k0 (can_by fs Done)
unfolding can_by
done_step fs k0 = fun_ext (λ k. sym (or_false (k0 k)))

pub heads_step : (fs : List (Kind → Bool)) (from : From) (more : Rules)
    → can_by fs (Heads from more) ≡ can_by fs more
unfolding can_by
heads_step fs from more = refl

pub worths_step : (fs : List (Kind → Bool)) (v : Worth) (more : Rules)
    → can_by fs (Worths v more) ≡ can_by fs more
unfolding can_by
worths_step fs v more = refl

pub node_step : (p : ℕ) (r : Rules) → can (node p r) ≡ can_by [] r
unfolding can
node_step p r = refl

pub leaves_made : (rs : tree.Rules) (o : Origin) (j : code.Kind) (q : Box tree.Rules Global)
    (fs : List (Kind → Bool)) (m : tree.Rules) (k0 k1 k2 : Kind → Bool) (reached : Bool)
    → rs ≡ rule.Leaves o j q → reached ≡ comes fs (seen_origin o)
    → k1 ≡ either k0 (if_so reached (same (seen_kind j))) → m ≡ q.value
    → k2 ≡ either k1 (can_by fs (seen_rules m)) → k2 ≡ either k0 (can_by fs (seen_rules rs))
leaves_made rs o j q fs m k0 k1 k2 reached is e g v h =
    leaves_step fs (seen_origin o) (seen_kind j) (seen_rules q.value) k0 k1 k2 reached e g
    (h ∙ ap (λ y. either k1 (can_by fs (seen_rules y))) v)
    ∙ sym (ap (λ r. either k0 (can_by fs (seen_rules r))) is
    ∙ ap (λ r. either k0 (can_by fs r)) (seen_leaves o j q))

pub done_made : (rs : tree.Rules) (fs : List (Kind → Bool)) (k0 : Kind → Bool) → rs ≡ rule.Done
    → k0 ≡ either k0 (can_by fs (seen_rules rs))
done_made rs fs k0 is =
    done_step fs k0 ∙ sym (ap (λ r. either k0 (can_by fs (seen_rules r))) is
    ∙ ap (λ r. either k0 (can_by fs r)) seen_done)

pub ends_made : (rs : tree.Rules) (o : Origin) (j : code.Kind) (fs : List (Kind → Bool))
    (k0 k1 : Kind → Bool) (reached : Bool)
    → rs ≡ rule.Ends o j → reached ≡ comes fs (seen_origin o)
    → k1 ≡ either k0 (if_so reached (same (seen_kind j)))
    → k1 ≡ either k0 (can_by fs (seen_rules rs))
ends_made rs o j fs k0 k1 reached is e g =
    leaves_step fs (seen_origin o) (seen_kind j) Done k0 k1 k1 reached e g (done_step fs k1)
    ∙ sym (ap (λ r. either k0 (can_by fs (seen_rules r))) is
    ∙ ap (λ r. either k0 (can_by fs r)) (seen_ends o j))

pub gives_made : (rs : tree.Rules) (o : Origin) (w : tree_worth.Worth) (fs : List (Kind → Bool))
    (k0 k1 : Kind → Bool) (reached : Bool)
    → rs ≡ rule.Gives o w → reached ≡ comes fs (seen_origin o)
    → k1 ≡ either k0 (if_so reached (same Normal)) → k1 ≡ either k0 (can_by fs (seen_rules rs))
gives_made rs o w fs k0 k1 reached is e g =
    leaves_step fs (seen_origin o) Normal (Worths (seen_worth w) Done) k0 k1 k1 reached e g
    (done_step fs k1 ∙ sym (ap (either k1) (worths_step fs (seen_worth w) Done)))
    ∙ sym (ap (λ r. either k0 (can_by fs (seen_rules r))) is
    ∙ ap (λ r. either k0 (can_by fs r)) (seen_gives o w))

pub joins_made : (rs : tree.Rules) (o : Origin) (w v : tree_worth.Worth)
    (fs : List (Kind → Bool)) (k0 k1 : Kind → Bool) (reached : Bool)
    → rs ≡ rule.Joins o w v → reached ≡ comes fs (seen_origin o)
    → k1 ≡ either k0 (if_so reached (same Normal)) → k1 ≡ either k0 (can_by fs (seen_rules rs))
joins_made rs o w v fs k0 k1 reached is e g =
    let last = Worths (seen_worth v) Done in
    leaves_step fs (seen_origin o) Normal (Worths (seen_worth w) last) k0 k1 k1 reached e g
    (done_step fs k1 ∙ sym (ap (either k1)
    (worths_step fs (seen_worth w) last ∙ worths_step fs (seen_worth v) Done)))
    ∙ sym (ap (λ r. either k0 (can_by fs (seen_rules r))) is
    ∙ ap (λ r. either k0 (can_by fs r)) (seen_joins o w v))

pub heads_made : (rs : tree.Rules) (o : Origin) (q : Box tree.Rules Global)
    (fs : List (Kind → Bool)) (m : tree.Rules) (k0 k2 : Kind → Bool)
    → rs ≡ rule.Heads o q → m ≡ q.value → k2 ≡ either k0 (can_by fs (seen_rules m))
    → k2 ≡ either k0 (can_by fs (seen_rules rs))
heads_made rs o q fs m k0 k2 is v h =
    h ∙ ap (λ y. either k0 (can_by fs (seen_rules y))) v
    ∙ sym (ap (λ r. either k0 (can_by fs (seen_rules r))) is
    ∙ ap (λ r. either k0 (can_by fs r)) (seen_heads o q)
    ∙ ap (either k0) (heads_step fs (seen_origin o) (seen_rules q.value)))

pub worths_made : (rs : tree.Rules) (w : tree_worth.Worth) (q : Box tree.Rules Global)
    (fs : List (Kind → Bool)) (m : tree.Rules) (k0 k2 : Kind → Bool)
    → rs ≡ rule.Worths w q → m ≡ q.value → k2 ≡ either k0 (can_by fs (seen_rules m))
    → k2 ≡ either k0 (can_by fs (seen_rules rs))
worths_made rs w q fs m k0 k2 is v h =
    h ∙ ap (λ y. either k0 (can_by fs (seen_rules y))) v
    ∙ sym (ap (λ r. either k0 (can_by fs (seen_rules r))) is
    ∙ ap (λ r. either k0 (can_by fs r)) (seen_worths w q)
    ∙ ap (either k0) (worths_step fs (seen_worth w) (seen_rules q.value)))

-- one that is there already
pub held : (j : Kind) (f : Kind → Bool) → f j ≡ true → f ≡ either f (same j)
held j f e = fun_ext (λ k. by_case k (same j k) refl) where
  by_case : (k : Kind) (b : Bool) → same j k ≡ b → f k ≡ (f k || same j k)
  by_case k true h =
      let g : f k ≡ true = ap f (sym (same_true j k h)) ∙ e in g ∙ sym (ap (λ b. b || same j k) g)
  by_case k false h = sym (ap (λ b. f k || b) h ∙ or_false (f k))

-- the parts behind a rule that has none
pub leaves_told : (rs : tree.Rules) (o : Origin) (j : code.Kind) (q : Box tree.Rules Global)
    (m : tree.Rules) → rs ≡ rule.Leaves o j q → m ≡ q.value
    → parts_can (seen_rules rs) ≡ parts_can (seen_rules m)
leaves_told rs o j q m is v =
    ap (λ r. parts_can (seen_rules r)) is ∙ ap parts_can (seen_leaves o j q)
    ∙ sym (ap (λ y. parts_can (seen_rules y)) v)

pub heads_told : (rs : tree.Rules) (o : Origin) (q : Box tree.Rules Global) (m : tree.Rules)
    → rs ≡ rule.Heads o q → m ≡ q.value → parts_can (seen_rules rs) ≡ parts_can (seen_rules m)
heads_told rs o q m is v =
    ap (λ r. parts_can (seen_rules r)) is ∙ ap parts_can (seen_heads o q)
    ∙ sym (ap (λ y. parts_can (seen_rules y)) v)

pub worths_told : (rs : tree.Rules) (w : tree_worth.Worth) (q : Box tree.Rules Global)
    (m : tree.Rules) → rs ≡ rule.Worths w q → m ≡ q.value
    → parts_can (seen_rules rs) ≡ parts_can (seen_rules m)
worths_told rs w q m is v =
    ap (λ r. parts_can (seen_rules r)) is ∙ ap parts_can (seen_worths w q)
    ∙ sym (ap (λ y. parts_can (seen_rules y)) v)

-- the next part is passed: where it is not entered, it completes in no way
pub entered_told : (old new : List (List code.Kind)) (place : ℕ) (js : List code.Kind) (b : Bool)
    → place < length old → (b ≡ true → new ≡ old) → (b ≡ false → new ≡ set old place [])
    → js ≡ get_or new place js → (f : Kind → Bool) (fs : List (Kind → Bool))
    → coming (suc place) old ≡ f ∷ fs
    → (coming place new ≡ fs) × (passed place new ≡ if_so b f ∷ passed (suc place) old)
    × (among js ≡ if_so b f)
entered_told old new place js true h kept cut q f fs e =
    let is : among (get_or old place js) ∷ coming place old ≡ f ∷ fs =
    sym (coming_more old place js h) ∙ e in
    let same : new ≡ old = kept refl in
    let held : among js ≡ f = ap among (q ∙ ap (λ l. get_or l place js) same) ∙ cc in (
      ap (coming place) same ∙ cc,
      ap (passed place) same ∙ ap (map among) (drop-cons old place js h)
          ∙ ap (λ g. g ∷ passed (suc place) old) cc,
      held,
    )
entered_told old new place js false h kept cut q f fs e =
    let is : among (get_or old place js) ∷ coming place old ≡ f ∷ fs =
    sym (coming_more old place js h) ∙ e in
    let less : new ≡ set old place [] = cut refl in (
      ap (coming place) less ∙ ap (λ l. cans l []) (take-set old place []) ∙ cc,
      ap (passed place) less ∙ ap (map among) (drop-set old place [] h)
          ∙ ap (λ n. among [] ∷ passed n old) (add-one place),
      ap among (q ∙ ap (λ l. get_or l place js) less ∙ get_or-set_same old place [] js h),
    )

pub pass_told : (old new : List (List code.Kind)) (left place : ℕ) (js : List code.Kind)
    (a : Absorber) (k0 k1 : Kind → Bool) (b : Bool) → suc place ≡ left → left ≤ length old
    → (b ≡ true → new ≡ old) → (b ≡ false → new ≡ set old place [])
    → js ≡ get_or new place js → k1 ≡ either k0 (apart a (among js))
    → (f : Kind → Bool) (fs : List (Kind → Bool)) → coming left old ≡ f ∷ fs
    → (coming place new ≡ fs) × (passed place new ≡ if_so b f ∷ passed left old)
    × (k1 ≡ either k0 (apart a (if_so b f)))
pass_told old new left place js a k0 k1 b s h kept cut q g f fs e =
    let t = entered_told old new place js b (omega (arith, s, h)) kept cut q f fs
    (ap (λ n. coming n old) s ∙ e) in (
      t.0,
      t.1 ∙ ap (λ n. if_so b f ∷ passed n old) s,
      g ∙ ap (λ y. either k0 (apart a y)) t.2,
    )

-- no part comes before the first place
pub none_left : (parts : List (List code.Kind)) (left : ℕ) (f : Kind → Bool)
    (fs : List (Kind → Bool)) → left ≡ 0 → coming left parts ≡ f ∷ fs → ⊥
none_left parts left f fs z e =
    let h : coming 0 parts ≡ f ∷ fs = ap (λ n. coming n parts) (sym z) ∙ e in cc

-- from no completions and no part passed on
pub rules_all : (r : Rules) (ks ks0 : List code.Kind) (found slice : List (List code.Kind))
    (left : ℕ) → ks0 ≡ [] → slice ≡ found → left ≡ length found → cans found [] ≡ parts_can r
    → (coming left slice ≡ parts_can r
    → among ks ≡ either (among ks0) (can_by (passed left slice) r))
    → among ks ≡ can_by [] r
rules_all r ks ks0 found slice left z s l h more =
    more (ap (coming left) s ∙ ap (λ n. coming n found) l
    ∙ ap (λ x. cans x []) (take_all (length found) found (omega arith)) ∙ h)
    ∙ ap (λ x. either (among x) (can_by (passed left slice) r)) z
    ∙ ap (λ x. either (among []) (can_by x r)) (ap (passed left) s
    ∙ ap (λ n. passed n found) l ∙ ap (map among) (drop_all found))

pub part_made : (rs : tree.Rules) (o : Origin) (a : tree_absorber.Absorber)
    (b : Box tree_node.Node Global) (q : Box tree.Rules Global)
    (found rest fs more_fs : List (Kind → Bool)) (m : tree.Rules) (k0 k1 k2 : Kind → Bool)
    (reached : Bool)
    → rs ≡ rule.Part o a b q → reached ≡ comes fs (seen_origin o)
    → ((f : Kind → Bool) (gs : List (Kind → Bool)) → found ≡ f ∷ gs
    → (rest ≡ gs) × (more_fs ≡ if_so reached f ∷ fs)
    × (k1 ≡ either k0 (apart (seen_absorber a) (if_so reached f))))
    → m ≡ q.value
    → (rest ≡ parts_can (seen_rules m) → k2 ≡ either k1 (can_by more_fs (seen_rules m)))
    → found ≡ parts_can (seen_rules rs) → k2 ≡ either k0 (can_by fs (seen_rules rs))
part_made rs o a b q found rest fs more_fs m k0 k1 k2 reached is e added v more h =
    let e0 : found ≡ can (seen_node b.value) ∷ parts_can (seen_rules q.value) = h
    ∙ ap (λ r. parts_can (seen_rules r)) is ∙ ap parts_can (seen_part o a b q) in
    part_step fs more_fs (seen_origin o) (seen_absorber a) (seen_node b.value)
    (seen_rules q.value) k0 k1 k2 reached e (added _ _ e0).1 (added _ _ e0).2
    (more ((added _ _ e0).0 ∙ sym (ap (λ y. parts_can (seen_rules y)) v))
    ∙ ap (λ y. either k1 (can_by more_fs (seen_rules y))) v)
    ∙ sym (ap (λ r. either k0 (can_by fs (seen_rules r))) is
    ∙ ap (λ r. either k0 (can_by fs r)) (seen_part o a b q))

pub test_made : (rs : tree.Rules) (b : Box tree_node.Node Global) (q : Box tree.Rules Global)
    (found rest fs more_fs : List (Kind → Bool)) (m : tree.Rules) (k0 k1 k2 : Kind → Bool)
    → rs ≡ rule.Test b q
    → ((f : Kind → Bool) (gs : List (Kind → Bool)) → found ≡ f ∷ gs
    → (rest ≡ gs) × (more_fs ≡ if_so true f ∷ fs)
    × (k1 ≡ either k0 (apart Next (if_so true f))))
    → m ≡ q.value
    → (rest ≡ parts_can (seen_rules m) → k2 ≡ either k1 (can_by more_fs (seen_rules m)))
    → found ≡ parts_can (seen_rules rs) → k2 ≡ either k0 (can_by fs (seen_rules rs))
test_made rs b q found rest fs more_fs m k0 k1 k2 is added v more h =
    let e0 : found ≡ can (seen_node b.value) ∷ parts_can (seen_rules q.value) = h
    ∙ ap (λ r. parts_can (seen_rules r)) is ∙ ap parts_can (seen_test b q) in
    test_step fs more_fs (seen_node b.value) (seen_rules q.value) k0 k1 k2 (added _ _ e0).1
    (added _ _ e0).2 (more ((added _ _ e0).0 ∙ sym (ap (λ y. parts_can (seen_rules y)) v))
    ∙ ap (λ y. either k1 (can_by more_fs (seen_rules y))) v)
    ∙ sym (ap (λ r. either k0 (can_by fs (seen_rules r))) is
    ∙ ap (λ r. either k0 (can_by fs r)) (seen_test b q))
