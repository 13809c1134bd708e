-- Rows as they are kept, and the facts that they show.
use Rattle.std.proofs.Common.{◌≡◌, ℕ, zero, suc, ◌+◌, ◌<◌, Bool, true, false, ◌&&◌, not, cond}
use Rattle.std.proofs.Common.{Option, Some, None, List, [], ◌∷◌, ◌++◌, length, get_or, take}
use Rattle.std.proofs.Common.{refl, sym, ap, ◌∙◌, subst, arith}
use Rattle.std.specs.Prelude.{is_some, slice_get}
use Rattle.std.proofs.Math.Path.{fun_ext}
use Rattle.std.proofs.lemmas.List.{take_more, length-map}
use Rattle.std.proofs.lemmas.Option.{get_or_from_slice_get, slice_get_within}
use Rattle.par_policy.specs.Numbers.{has as is_among}
use Rattle.par_typed.specs.declared.table.Table.{Table}
use Rattle.par_typed.specs.Plain.{Body}
use Rattle.par_bits.specs.Sets.{Set, has}
use Rattle.par_program_laws.specs.Lattice.{numbers}
use Rattle.par_program_laws.specs.Ways.{Way}
use Rattle.par_program_laws.specs.Kinds.{Kind}
use Rattle.par_program_laws.specs.Facts.{Fact, blank}
use Rattle.par_locks.specs.par_pass_laws.Written.{table as by_point}
use Rattle.par_envs.specs.Numbered.{Extends, AreFound}
use Rattle.par_envs.proofs.Found.{different}
use Rattle.par_rounds.specs.par_ways.declared.exits.Exit.{Exit}
use Rattle.par_rounds.specs.par_ways.declared.fact.Fact as code
use Rattle.par_rounds.specs.par_ways.Seen.{seen_exit, seen_exits, seen_fact, seen_facts}
use Rattle.par_rounds.specs.Bodies.{AreLeastClosed}
use Rattle.par_program_laws.specs.Orderly.{locals_in}
use Rattle.par_flow.specs.declared.kept.KeptWay.{KeptWay}
use Rattle.par_flow.specs.declared.kept.KeptWays.{KeptWays}
use Rattle.par_flow.specs.declared.table.Row.{Row}
use Rattle.par_flow.specs.declared.table.FactTable.{FactTable}
use Rattle.par_flow.specs.Kept.{exit_of, way_with, AreLong, AreOnce, MayShow}
use Rattle.par_flow.specs.Statements.{points}
use Rattle.par_flow.specs.Table.{reached, value_in, exits_in, entry_in, row_at, envs_in, entry_at}
use Rattle.par_flow.specs.Table.{flags, may_way, fact_in, IsNamedAt, ShowsFact, AllShow, IsTableOf}
use Rattle.par_flow.proofs.Ways.{may_still}

-- ---- one more of a list

exits_behind : (xs : List Exit) (x : Exit)
    → seen_exits (xs ++ x ∷ []) ≡ seen_exits xs ++ seen_exit x ∷ []
exits_behind [] x = refl
exits_behind (y ∷ xs) x = ap (λ zs. seen_exit y ∷ zs) (exits_behind xs x)

pub exits_more : (xs : List Exit) (i : ℕ) (x : Exit) → i < length xs → x ≡ get_or xs i x
    → seen_exits (take (i + 1) xs) ≡ seen_exits (take i xs) ++ seen_exit x ∷ []
exits_more xs i x l e =
    ap seen_exits (take_more xs i x l) ∙ exits_behind (take i xs) (get_or xs i x)
    ∙ ap (λ y. seen_exits (take i xs) ++ seen_exit y ∷ []) (sym e)

facts_behind : (xs : List code.Fact) (x : code.Fact)
    → seen_facts (xs ++ x ∷ []) ≡ seen_facts xs ++ seen_fact x ∷ []
facts_behind [] x = refl
facts_behind (y ∷ xs) x = ap (λ zs. seen_fact y ∷ zs) (facts_behind xs x)

pub facts_more : (xs : List code.Fact) (i : ℕ) (x : code.Fact) → i < length xs → x ≡ get_or xs i x
    → seen_facts (take (i + 1) xs) ≡ seen_facts (take i xs) ++ seen_fact x ∷ []
facts_more xs i x l e =
    ap seen_facts (take_more xs i x l) ∙ facts_behind (take i xs) (get_or xs i x)
    ∙ ap (λ y. seen_facts (take i xs) ++ seen_fact y ∷ []) (sym e)

flags_behind : (rs : List Row) (r : Row) → flags (rs ++ r ∷ []) ≡ flags rs ++ r.is_statement ∷ []
flags_behind [] r = refl
flags_behind (s ∷ rs) r = ap (λ bs. s.is_statement ∷ bs) (flags_behind rs r)

pub flags_more : (rs ss : List Row) (r : Row) (bs : List Bool) (i : ℕ) (b d : Bool)
    → ss ≡ rs ++ r ∷ [] → flags rs ≡ take i bs → i < length bs → r.is_statement ≡ b
    → b ≡ get_or bs i d → flags ss ≡ take (i + 1) bs
flags_more rs ss r bs i b d e h l f g =
    ap flags e ∙ flags_behind rs r ∙ ap (λ xs. xs ++ r.is_statement ∷ []) h
    ∙ ap (λ x. take i bs ++ x ∷ []) (f ∙ g) ∙ sym (take_more bs i d l)

-- ---- what rows show

shows_still : (es gs : List (List ℕ)) → Extends es gs → (r : Row) (f : Fact numbers)
    → ShowsFact es r f → ShowsFact gs r f
shows_still es gs x r f s = record {
  entry = may_still es gs x r.entry f.entry s.entry;
  value = s.value;
  exits = λ k. may_still es gs x (exit_of r.exits.value k) (f.exit k) (s.exits k);
  once = s.once;
}

all_still : (es gs : List (List ℕ)) → Extends es gs → (rs : List Row) (fs : List (Fact numbers))
    → AllShow es rs fs → AllShow gs rs fs
all_still es gs x [] [] h = tt
all_still es gs x [] (f ∷ fs) h = h
all_still es gs x (r ∷ rs) [] h = h
all_still es gs x (r ∷ rs) (f ∷ fs) h = (shows_still es gs x r f h.0, all_still es gs x rs fs h.1)

all_behind : (es : List (List ℕ)) (rs : List Row) (fs : List (Fact numbers)) (r : Row)
    (f : Fact numbers) → AllShow es rs fs → ShowsFact es r f
    → AllShow es (rs ++ r ∷ []) (fs ++ f ∷ [])
all_behind es [] [] r f h s = (s, tt)
all_behind es [] (g ∷ fs) r f h s = absurd h
all_behind es (q ∷ rs) [] r f h s = absurd h
all_behind es (q ∷ rs) (g ∷ fs) r f h s = (h.0, all_behind es rs fs r f h.1 s)

-- one more row, over more environments
pub all_more : (es gs : List (List ℕ)) → Extends es gs
    → (rs ss : List Row) (r : Row) (fs hs : List (Fact numbers)) (f : Fact numbers)
    → ss ≡ rs ++ r ∷ [] → hs ≡ fs ++ f ∷ []
    → AllShow es rs fs → ShowsFact gs r f → AllShow gs ss hs
all_more es gs x rs ss r fs hs f d e h s =
    subst (λ l. AllShow gs l hs) (sym d)
    (subst (AllShow gs (rs ++ r ∷ [])) (sym e)
    (all_behind gs rs fs r f (all_still es gs x rs fs h) s))

pub may_same : (es : List (List ℕ)) (k : Option KeptWay) (o : Option (Way numbers)) → MayShow es k o
    → may_way es k ≡ o
may_same es None None h = refl
may_same es None (Some w) h = absurd h
may_same es (Some k) None h = absurd h
may_same es (Some k) (Some w) h =
    ap Some (ap (λ e. way_with e k) (get_or_from_slice_get es k.env h.0 [] h.1) ∙ h.2)

fact_as : (e d : Option (Way numbers)) (v u : Set) (x y : Kind → Option (Way numbers)) → e ≡ d
    → v ≡ u → x ≡ y
    → (let f : Fact numbers = record { entry = e; value = v; exit = x } in f)
    ≡ record { entry = d; value = u; exit = y }
fact_as e d v u x y p q r = cc

fact_same : (es : List (List ℕ)) (r : Row) (f : Fact numbers) → ShowsFact es r f
    → fact_in es (Some r) ≡ f
fact_same es r f s =
    fact_as _ f.entry _ f.value _ f.exit (may_same es r.entry f.entry s.entry) s.value
    (fun_ext λ k. may_same es (exit_of r.exits.value k) (f.exit k) (s.exits k))

same_at : (es : List (List ℕ)) (rs : List Row) (fs : List (Fact numbers)) → AllShow es rs fs
    → (p : ℕ) → fact_in es (slice_get rs p) ≡ get_or fs p (blank numbers)
same_at es [] [] h p = refl
same_at es [] (f ∷ fs) h p = absurd h
same_at es (r ∷ rs) [] h p = absurd h
same_at es (r ∷ rs) (f ∷ fs) h zero = fact_same es r f h.0
same_at es (r ∷ rs) (f ∷ fs) h (suc p) = same_at es rs fs h.1 p

shown_at : (es : List (List ℕ)) (rs : List Row) (fs : List (Fact numbers)) → AllShow es rs fs
    → (p : ℕ) (r : Row) → slice_get rs p ≡ Some r → ShowsFact es r (fact_in es (Some r))
shown_at es [] [] h p r e = absurd (let g : None ≡ Some r = e in cc)
shown_at es [] (f ∷ fs) h p r e = absurd h
shown_at es (q ∷ rs) [] h p r e = absurd h
shown_at es (q ∷ rs) (f ∷ fs) h zero r e =
    let g : Some q ≡ Some r = e in let s : q ≡ r = cc in
    subst (λ x. ShowsFact es x (fact_in es (Some x))) s
    (subst (ShowsFact es q) (sym (fact_same es q f h.0)) h.0)
shown_at es (q ∷ rs) (f ∷ fs) h (suc p) r e = shown_at es rs fs h.1 p r e

-- ---- the table of a body

held : {A : Type 0} (o : Option KeptWay) (x y : A) → reached o (Some x) ≡ Some y → x ≡ y
held None x y e = absurd (let g : None ≡ Some y = e in cc)
held (Some k) x y e = let g : Some x ≡ Some y = e in cc

held_unless : (o : Option KeptWay) (b : Bool) (x y : ℕ)
    → reached o (cond b None (Some x)) ≡ Some y → x ≡ y
held_unless o true x y e = absurd (nothing o e) where
  nothing : (q : Option KeptWay) → reached q (let n : Option ℕ = None in n) ≡ Some y → ⊥
  nothing None h = cc
  nothing (Some k) h = cc
held_unless o false x y e = held o x y e

left_some : {A : Type 0} (o : Option KeptWay) (x : A) → is_some (reached o (Some x)) ≡ is_some o
left_some None x = refl
left_some (Some k) x = refl

valued_some : (o : Option KeptWay) (b : Bool) (x : ℕ)
    → is_some (reached o (cond b None (Some x))) ≡ (is_some o && not b)
valued_some None b x = refl
valued_some (Some k) true x = refl
valued_some (Some k) false x = refl

flag_at : (rs : List Row) (p : ℕ) (r : Row) → slice_get rs p ≡ Some r
    → get_or (flags rs) p false ≡ r.is_statement
flag_at [] p r e = absurd (let g : None ≡ Some r = e in cc)
flag_at (q ∷ rs) zero r e = let g : Some q ≡ Some r = e in cc
flag_at (q ∷ rs) (suc p) r e = flag_at rs p r e

module _ (t : FactTable) (fs : List (Fact numbers)) (shown : AllShow (envs_in t) t.rows.items fs)
    (listed : List ℕ) (bs : List Bool) (many : ℕ)
    (flagged : flags t.rows.items ≡ bs) (size : length bs ≡ many)
    (known : (p : ℕ) → p < many → get_or bs p false ≡ is_among listed p)
    (used : (n : ℕ) → n < length (envs_in t) → (p : ℕ) × IsNamedAt n (row_at t p))
    (many_locals : ℕ) (long : AreLong many_locals (envs_in t))
  where
    told : (p : ℕ) (r : Row) → slice_get t.rows.items p ≡ Some r
        → r.is_statement ≡ is_among listed p
    told p r e =
        let inside = slice_get_within t.rows.items p r e in
        let same : length t.rows.items ≡ many =
        sym (length-map t.rows.items (λ x. x.is_statement)) ∙ ap length flagged ∙ size in
        sym (flag_at t.rows.items p r e) ∙ ap (λ l. get_or l p false) flagged
        ∙ known p (omega (arith, inside, same))

    entries_of : (p : ℕ) (o : Option Row) → slice_get t.rows.items p ≡ o
        → MayShow (envs_in t) (entry_in o) (fact_in (envs_in t) o).entry
    entries_of p None e = tt
    entries_of p (Some r) e = (shown_at (envs_in t) t.rows.items fs shown p r e).entry

    exits_of : (p : ℕ) (o : Option Row) → slice_get t.rows.items p ≡ o → (ways : KeptWays)
        → exits_in o ≡ Some ways → (k : Kind)
        → MayShow (envs_in t) (exit_of ways k) ((fact_in (envs_in t) o).exit k)
    exits_of p None e ways h k = absurd (let g : None ≡ Some ways = h in cc)
    exits_of p (Some r) e ways h k =
        subst (λ w. MayShow (envs_in t) (exit_of w k) ((fact_in (envs_in t) (Some r)).exit k))
        (held r.entry r.exits.value ways h)
        ((shown_at (envs_in t) t.rows.items fs shown p r e).exits k)

    once_of : (p : ℕ) (o : Option Row) → slice_get t.rows.items p ≡ o → (ways : KeptWays)
        → exits_in o ≡ Some ways → AreOnce ways.throws
    once_of p None e ways h = absurd (let g : None ≡ Some ways = h in cc)
    once_of p (Some r) e ways h =
        subst (λ w. AreOnce w.throws) (held r.entry r.exits.value ways h)
        (shown_at (envs_in t) t.rows.items fs shown p r e).once

    values_of : (o : Option Row) (v : ℕ) → value_in o ≡ Some v
        → has v ≡ (fact_in (envs_in t) o).value
    values_of None v h = absurd (let g : None ≡ Some v = h in cc)
    values_of (Some r) v h = ap has (sym (held_unless r.entry r.is_statement r.value v h))

    left_of : (o : Option Row) → is_some (exits_in o) ≡ is_some (entry_in o)
    left_of None = refl
    left_of (Some r) = left_some r.entry r.exits.value

    valued_of : (p : ℕ) (o : Option Row) → slice_get t.rows.items p ≡ o
        → is_some (value_in o) ≡ (is_some (entry_in o) && not (is_among listed p))
    valued_of p None e = refl
    valued_of p (Some r) e =
        valued_some r.entry r.is_statement r.value ∙ ap (λ b. is_some r.entry && not b) (told p r e)

    pub table_is : (table : Table) (b : Body) → listed ≡ points b.body
        → many_locals ≡ locals_in table b
        → AreFound t.numbered.entries.items → AreLeastClosed table b (by_point fs)
        → IsTableOf table b t
    table_is table b all locals found least = record {
      facts =
          subst (AreLeastClosed table b)
          (sym (fun_ext (same_at (envs_in t) t.rows.items fs shown))) least;
      different = different t.numbered.entries.items found;
      long = subst (λ n. AreLong n (envs_in t)) locals long;
      used = used;
      entries = λ p. entries_of p (row_at t p) refl;
      exits = λ p. exits_of p (row_at t p) refl;
      once = λ p. once_of p (row_at t p) refl;
      values = λ p v. values_of (row_at t p) v;
      left = λ p. left_of (row_at t p);
      valued =
          λ p. valued_of p (row_at t p) refl
          ∙ ap (λ l. is_some (entry_at t p) && not (is_among l p)) all;
    }
