-- Each rule that the code takes is a step of the pass.
use Rattle.std.proofs.Common.{◌≡◌, ℕ, Bool, Option, Some, None, List, [], ◌∷◌, ◌++◌, refl, sym, ap}
use Rattle.std.proofs.Common.{◌∙◌, subst}
use Rattle.par_bits.specs.Sets.{Set, has, none, union}
use Rattle.par_program_laws.specs.Lattice.{numbers}
use Rattle.par_program_laws.specs.Kinds.{Kind, normal, absorbed, Absorber}
use Rattle.par_program_laws.specs.Facts.{Fact}
use Rattle.par_program_laws.specs.Rules.{From, Worth, Node, node, Rules, Done, Part, Test, Heads}
use Rattle.par_program_laws.specs.Rules.{Leaves}
use Rattle.par_program_laws.specs.Rules.{Worths, spot, way, worth}
use Rattle.par_pass_laws.specs.par_except.declared.way.Way as code_way
use Rattle.par_pass_laws.specs.par_except.Seen.{may_see}
use Rattle.par_pass_laws.specs.Exits.{Way, Exit, all, at, leaving, leave, restored}
use Rattle.par_pass_laws.specs.Pass as plain
use Rattle.par_pass_laws.specs.Pass.{HeadWays, Event, Row, nothing, fact, visited, ended, into}
use Rattle.par_pass_laws.specs.Pass.{pass}
use Rattle.par_pass_laws.specs.Pass.{pass_all}
use Rattle.par_ways.specs.declared.exits.Exit as code_exit
use Rattle.par_rounds.specs.declared.notes.Notes.{Notes}
use Rattle.par_rounds.specs.declared.pass.Found.{Found}
use Rattle.par_rounds.specs.declared.pass.SoFar.{SoFar}
use Rattle.par_ways.specs.Seen.{seen_exits, latest_first, AreWide}
use Rattle.par_rounds.specs.Took.{Took}
use Rattle.par_rounds.specs.Passes.{found_of, GoesOn, Passed, TookPart}
use Rattle.par_rounds.proofs.Events.{then, took_none}
use Rattle.par_ways.proofs.Parts.{latest_push}

found_as : (v u : Set) (xs ys : List Exit) (l k : List Event) → v ≡ u → xs ≡ ys → l ≡ k
    → (let r : plain.Found = record { value = v; exits = xs; events = l } in r)
    ≡ record { value = u; exits = ys; events = k }
found_as v u xs ys l k e f g = cc

fact_as : (o p : Option Way) (v u : Set) (xs ys : List Exit) → o ≡ p → v ≡ u → xs ≡ ys
    → (let r : Fact numbers = record { entry = o; value = v; exit = at xs } in r)
    ≡ record { entry = p; value = u; exit = at ys }
fact_as o p v u xs ys e f g = cc

pass_as : (h : HeadWays) (more : Rules) (w : Way) (a b : Option ℕ) (fs gs : List (Fact numbers))
    (r s : plain.Found) → a ≡ b → fs ≡ gs → r ≡ s
    → pass_all h more w a fs r ≡ pass_all h more w b gs s
pass_as h more w a b fs gs r s e f g = cc

-- a part that was passed, with the way that enters it seen as the rules see it
pub took_part : (h : HeadWays) (absorbs : Kind → Bool) (o : Option Way) (n : Node) (so to : SoFar)
    (entry : Option code_way.Way) (found : Found) (m0 m1 : Notes) → may_see entry ≡ o
    → Passed found (visited (may_see entry) (spot n) (pass h n)) m0 m1
    → to.parts.items ≡ so.parts.items
    ++ record { entry = entry; value = found.value; exits = found.exits } ∷ []
    → to.found.value ≡ so.found.value
    → seen_exits to.found.exits.items
    ≡ all (leaving absorbs (seen_exits found.exits.items)) (seen_exits so.found.exits.items)
    → AreWide m0.locals to.found.exits.items
    → TookPart absorbs o (visited o (spot n) (pass h n)) so to m0 m1
took_part h absorbs o n so to entry found m0 m1 eo p ep ev ex wide = record {
  entry = entry;
  found = found;
  enters = eo;
  passed = subst (λ z. Passed found (visited z (spot n) (pass h n)) m0 m1) eo p;
  parts = ep;
  value = ev;
  exits = ex;
  wide = wide;
}

pub done_goes : (h : HeadWays) (rules : Rules) (w : Way) (so : SoFar) (n : Notes) → rules ≡ Done
    → ((m : Notes) → n.locals ≡ m.locals → AreWide m.locals so.found.exits.items)
    → GoesOn h rules w so n so.found n
unfolding pass_all
done_goes h rules w so n is x = λ l m t.
    subst
    (λ z. Passed so.found (pass_all h z w so.head (latest_first so.parts.items [])
    (found_of so.found l)) m n) (sym is)
    (record { value = refl; exits = refl; wide = x m t.locals; noted = t })

module _ (h : HeadWays) (w : Way) (so to : SoFar) (r : Found) where
  pub part_goes : (more : Rules) (absorbs : Kind → Bool) (head : Option ℕ) (o : Option Way)
      (entry : Option code_way.Way) (found : Found) (q : plain.Found) (m0 m1 m2 : Notes)
      → may_see entry ≡ o → Passed found q m0 m1 → to.head ≡ head
      → to.parts.items ≡ so.parts.items
      ++ record { entry = entry; value = found.value; exits = found.exits } ∷ []
      → to.found.value ≡ so.found.value
      → seen_exits to.found.exits.items
      ≡ all (leaving absorbs (seen_exits found.exits.items)) (seen_exits so.found.exits.items)
      → GoesOn h more w to m1 r m2
      → (l : List Event) (m : Notes) → Took l m m0
      → Passed r (pass_all h more w head (fact o q ∷ latest_first so.parts.items [])
      (record {
        value = has so.found.value;
        exits = all (leaving absorbs q.exits) (seen_exits so.found.exits.items);
        events = l ++ q.events;
      })) m m2
  part_goes more absorbs head o entry found q m0 m1 m2 eo p eh ep ev ex ih l m t =
      subst (λ z. Passed r z m m2)
      (pass_as h more w to.head head _ _ _ _ eh
      (ap (λ fs. latest_first fs []) ep ∙ latest_push so.parts.items _ []
      ∙ ap (λ f. f ∷ latest_first so.parts.items [])
      (fact_as (may_see entry) o (has found.value) q.value
      (seen_exits found.exits.items) q.exits eo p.value p.exits))
      (found_as _ _ _ _ _ _ (ap has ev)
      (ex ∙ ap (λ xs. all (leaving absorbs xs) (seen_exits so.found.exits.items)) p.exits) refl))
      (ih (l ++ q.events) m (then t p.noted))

  pub part_arm : (rules : Rules) (from : From) (a : Absorber) (n : Node) (more : Rules)
      (entry : Option code_way.Way) (found : Found) (m0 m1 m2 : Notes)
      → rules ≡ Part from a n more
      → may_see entry ≡ way numbers (Some w) (latest_first so.parts.items []) from
      → (let o = way numbers (Some w) (latest_first so.parts.items []) from in
      Passed found (visited o (spot n) (pass h n)) m0 m1) → to.head ≡ so.head
      → to.parts.items ≡ so.parts.items
      ++ record { entry = entry; value = found.value; exits = found.exits } ∷ []
      → to.found.value ≡ so.found.value
      → seen_exits to.found.exits.items
      ≡ all (leaving (absorbed a) (seen_exits found.exits.items)) (seen_exits so.found.exits.items)
      → GoesOn h more w to m1 r m2 → GoesOn h rules w so m0 r m2
  unfolding pass_all
  part_arm rules from a n more entry found m0 m1 m2 is eo p eh ep ev ex ih = λ l m t.
      let o = way numbers (Some w) (latest_first so.parts.items []) from in
      subst
      (λ z. Passed r (pass_all h z w so.head (latest_first so.parts.items []) (found_of so.found l))
      m m2) (sym is)
      (part_goes more (absorbed a) so.head o entry found (visited o (spot n) (pass h n)) m0 m1 m2 eo
      p eh ep ev ex ih l m t)

  pub test_arm : (rules : Rules) (n : Node) (more : Rules) (entry : Option code_way.Way)
      (found : Found) (m0 m1 m2 : Notes)
      → rules ≡ Test n more → may_see entry ≡ h (spot n)
      → Passed found (visited (h (spot n)) (spot n) (pass h n)) m0 m1 → to.head ≡ Some (spot n)
      → to.parts.items ≡ so.parts.items
      ++ record { entry = entry; value = found.value; exits = found.exits } ∷ []
      → to.found.value ≡ so.found.value
      → seen_exits to.found.exits.items
      ≡ all (leaving normal (seen_exits found.exits.items)) (seen_exits so.found.exits.items)
      → GoesOn h more w to m1 r m2 → GoesOn h rules w so m0 r m2
  unfolding pass_all
  test_arm rules n more entry found m0 m1 m2 is eo p eh ep ev ex ih = λ l m t.
      let o = h (spot n) in
      subst
      (λ z. Passed r (pass_all h z w so.head (latest_first so.parts.items []) (found_of so.found l))
      m m2) (sym is)
      (part_goes more normal (Some (spot n)) o entry found
      (visited o (spot n) (pass h n)) m0 m1 m2 eo p eh ep ev ex ih l m t)

  pub leaves_arm : (rules : Rules) (from : From) (k : Kind) (more : Rules) (m0 m2 : Notes)
      → rules ≡ Leaves from k more → to.head ≡ so.head → to.parts ≡ so.parts
      → to.found.value ≡ so.found.value
      → seen_exits to.found.exits.items
      ≡ all (leave (way numbers (Some w) (latest_first so.parts.items []) from) k)
      (seen_exits so.found.exits.items)
      → GoesOn h more w to m0 r m2 → GoesOn h rules w so m0 r m2
  unfolding pass_all
  leaves_arm rules from k more m0 m2 is eh ep ev ex ih = λ l m t.
      subst
      (λ z. Passed r (pass_all h z w so.head (latest_first so.parts.items []) (found_of so.found l))
      m m2) (sym is)
      (subst (λ z. Passed r z m m2)
      (pass_as h more w to.head so.head _ _ _ _ eh (ap (λ ps. latest_first ps.items []) ep)
      (found_as _ _ _ _ _ _ (ap has ev) ex refl))
      (ih l m t))

  pub worths_arm : (rules : Rules) (v : Worth) (more : Rules) (m0 m2 : Notes)
      → rules ≡ Worths v more → to.head ≡ so.head → to.parts ≡ so.parts
      → has to.found.value ≡ union (has so.found.value)
      (worth numbers (Some w) (latest_first so.parts.items []) v) → to.found.exits ≡ so.found.exits
      → GoesOn h more w to m0 r m2 → GoesOn h rules w so m0 r m2
  unfolding pass_all
  worths_arm rules v more m0 m2 is eh ep ev ex ih = λ l m t.
      subst
      (λ z. Passed r (pass_all h z w so.head (latest_first so.parts.items []) (found_of so.found l))
      m m2) (sym is)
      (subst (λ z. Passed r z m m2)
      (pass_as h more w to.head so.head _ _ _ _ eh (ap (λ ps. latest_first ps.items []) ep)
      (found_as _ _ _ _ _ _ ev (ap (λ xs. seen_exits xs.items) ex) refl))
      (ih l m t))

-- the way leaves, and that is all
pub ends_arm : (h : HeadWays) (w : Way) (so to : SoFar) (rules : Rules) (from : From) (k : Kind)
    (m0 : Notes) → rules ≡ Leaves from k Done → to.head ≡ so.head → to.parts ≡ so.parts
    → to.found.value ≡ so.found.value
    → seen_exits to.found.exits.items
    ≡ all (leave (way numbers (Some w) (latest_first so.parts.items []) from) k)
    (seen_exits so.found.exits.items)
    → AreWide m0.locals to.found.exits.items → GoesOn h rules w so m0 to.found m0
ends_arm h w so to rules from k m0 is eh ep ev ex wide =
    leaves_arm h w so to to.found rules from k Done m0 m0 is eh ep ev ex
    (done_goes h Done w to m0 refl
    (λ m e. subst (λ n. AreWide n to.found.exits.items) e wide))

-- the last part of the value
pub last_arm : (h : HeadWays) (w : Way) (so to : SoFar) (v : Worth) (m0 : Notes)
    → AreWide m0.locals so.found.exits.items → to.head ≡ so.head → to.parts ≡ so.parts
    → has to.found.value ≡ union (has so.found.value)
    (worth numbers (Some w) (latest_first so.parts.items []) v)
    → to.found.exits ≡ so.found.exits → GoesOn h (Worths v Done) w so m0 to.found m0
last_arm h w so to v m0 wide eh ep ev ex =
    worths_arm h w so to to.found (Worths v Done) v Done m0 m0 refl eh ep ev ex
    (done_goes h Done w to m0 refl
    (λ m e. subst (λ n. AreWide n to.found.exits.items) e
    (subst (λ xs. AreWide m0.locals xs.items) (sym ex) wide)))

-- the way leaves, and the node has a value
pub gives_arm : (h : HeadWays) (w : Way) (so left to : SoFar) (rules : Rules) (from : From)
    (k : Kind) (v : Worth) (m0 : Notes) → rules ≡ Leaves from k (Worths v Done)
    → left.head ≡ so.head → left.parts ≡ so.parts → left.found.value ≡ so.found.value
    → seen_exits left.found.exits.items
    ≡ all (leave (way numbers (Some w) (latest_first so.parts.items []) from) k)
    (seen_exits so.found.exits.items)
    → AreWide m0.locals left.found.exits.items → to.head ≡ left.head → to.parts ≡ left.parts
    → has to.found.value ≡ union (has left.found.value)
    (worth numbers (Some w) (latest_first left.parts.items []) v)
    → to.found.exits ≡ left.found.exits → GoesOn h rules w so m0 to.found m0
gives_arm h w so left to rules from k v m0 is eh ep ev ex wide fh fp fv fx =
    leaves_arm h w so left to.found rules from k (Worths v Done) m0 m0 is eh ep ev ex
    (last_arm h w left to v m0 wide fh fp fv fx)

-- the way leaves, and the value of the node joins two
pub joins_arm : (h : HeadWays) (w : Way) (so left half to : SoFar) (rules : Rules) (from : From)
    (k : Kind) (v u : Worth) (m0 : Notes) → rules ≡ Leaves from k (Worths v (Worths u Done))
    → left.head ≡ so.head → left.parts ≡ so.parts → left.found.value ≡ so.found.value
    → seen_exits left.found.exits.items
    ≡ all (leave (way numbers (Some w) (latest_first so.parts.items []) from) k)
    (seen_exits so.found.exits.items)
    → AreWide m0.locals left.found.exits.items → half.head ≡ left.head → half.parts ≡ left.parts
    → has half.found.value ≡ union (has left.found.value)
    (worth numbers (Some w) (latest_first left.parts.items []) v)
    → half.found.exits ≡ left.found.exits → to.head ≡ half.head → to.parts ≡ half.parts
    → has to.found.value ≡ union (has half.found.value)
    (worth numbers (Some w) (latest_first half.parts.items []) u)
    → to.found.exits ≡ half.found.exits → GoesOn h rules w so m0 to.found m0
joins_arm h w so left half to rules from k v u m0 is eh ep ev ex wide fh fp fv fx gh gp gv gx =
    leaves_arm h w so left to.found rules from k (Worths v (Worths u Done)) m0 m0 is eh ep ev ex
    (worths_arm h w left half to.found (Worths v (Worths u Done)) v (Worths u Done) m0 m0 refl
    fh fp fv fx
    (last_arm h w half to u m0 (subst (λ xs. AreWide m0.locals xs.items) (sym fx) wide)
    gh gp gv gx))

pub heads_arm : (h : HeadWays) (w : Way) (so : SoFar) (r : Found) (rules : Rules) (from : From)
    (more : Rules) (m0 m1 m2 : Notes)
    → rules ≡ Heads from more → Took
    (into so.head (way numbers (Some w) (latest_first so.parts.items []) from)) m0 m1
    → GoesOn h more w so m1 r m2 → GoesOn h rules w so m0 r m2
unfolding pass_all
heads_arm h w so r rules from more m0 m1 m2 is p ih = λ l m t.
    subst
    (λ z. Passed r (pass_all h z w so.head (latest_first so.parts.items []) (found_of so.found l)) m
    m2) (sym is)
    (ih (l ++ into so.head (way numbers (Some w) (latest_first so.parts.items []) from))
    m (then t p))

-- a node from nothing
pub node_goes : (h : HeadWays) (p : ℕ) (rules : Rules) (w : Way) (so : SoFar) (got r : Found)
    (m0 m1 m2 : Notes)
    → so.head ≡ None → so.parts.items ≡ [] → has so.found.value ≡ none → so.found.exits.items ≡ []
    → GoesOn h rules w so m0 got m1
    → ((l : List Event) (m : Notes) → Took l m m1 → AreWide m.locals got.exits.items
    → Passed r (ended p w (found_of got l)) m m2)
    → Passed r (pass h (node p rules) w) m0 m2
unfolding pass
node_goes h p rules w so got r m0 m1 m2 eh ep ev ex go end =
    let e =
    pass_as h rules w so.head None _ _ _ _ eh (ap (λ fs. latest_first fs []) ep)
    (found_as _ _ _ _ [] [] ev (ap seen_exits ex) refl) in
    let a = subst (λ z. Passed got z m0 m1) e (go [] m0 (took_none m0)) in
    let b = end (pass_all h rules w None [] nothing).events m0 a.noted a.wide in
    subst (λ z. Passed r (ended p w z) m0 m2) (found_as _ _ _ _ _ _ a.value a.exits refl) b

-- the end of a node
pub finish_goes : (p : ℕ) (w : Way) (found r : Found) (slice : List code_exit.Exit) (m1 m2 : Notes)
    → r.value ≡ found.value → seen_exits r.exits.items ≡ restored w (seen_exits found.exits.items)
    → ((n : ℕ) → AreWide n found.exits.items → AreWide n r.exits.items) → slice ≡ r.exits.items
    → Took (Row p (record { entry = Some w; value = has r.value; exit = at (seen_exits slice) })
    ∷ []) m1 m2
    → (l : List Event) (m : Notes) → Took l m m1 → AreWide m.locals found.exits.items
    → Passed r (ended p w (found_of found l)) m m2
finish_goes p w found r slice m1 m2 ev ex wide es row l m t x = record {
  value = ap has ev;
  exits = ex;
  wide = wide m.locals x;
  noted =
      then t (subst (λ f. Took (Row p f ∷ []) m1 m2)
      (fact_as (Some w) (Some w) _ _ _ _ refl (ap has ev) (ap seen_exits es ∙ ex)) row);
}
