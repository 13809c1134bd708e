-- What is known behind one declaration more.
use Rattle.std.proofs.Common.{◌≡◌, ℕ, ◌+◌, ◌<◌, ◌≤◌, List, [], ◌∷◌, length, drop, get_or, refl, sym}
use Rattle.std.proofs.Common.{ap, ◌∙◌}
use Rattle.std.specs.Borrow.{Bor}
use Rattle.par_tree.specs.declared.decl.PolicyDecl.{PolicyDecl}
use Rattle.par_resolved.specs.Policies.{Known, known_behind, with_value, value_of}
use Rattle.par_parts.specs.Gathered.{all_of}
use Rattle.par_resolved.proofs.Loops.{drop_more, none_left}

pub behind_none : (k : Known) → known_behind k [] ≡ k
unfolding known_behind
behind_none k = refl

pub behind_more : (k : Known) (d : PolicyDecl) (ds : List PolicyDecl)
    → known_behind k (d ∷ ds) ≡ known_behind (with_value k (value_of k d.policy)) ds
unfolding known_behind
behind_more k d ds = refl

pub ruleset behinds = (behind_none, behind_more)

-- one declaration more is read
pub read_more : (ds : List (Bor PolicyDecl)) (i : ℕ) (r : Bor PolicyDecl) (old new whole : Known)
    → i < length ds → r ≡ get_or ds i r
    → new ≡ with_value old (value_of old r.now.policy)
    → known_behind old (all_of (drop i ds)) ≡ whole
    → known_behind new (all_of (drop (i + 1) ds)) ≡ whole
read_more ds i r old new whole inside is made so =
    ap (λ k. known_behind k (all_of (drop (i + 1) ds))) made
    ∙ sym (behind_more old r.now (all_of (drop (i + 1) ds)))
    ∙ ap (λ rs. known_behind old (all_of rs)) (sym (drop_more ds i r inside is)) ∙ so

pub read_all : (ds : List (Bor PolicyDecl)) (i : ℕ) (old whole : Known) → length ds ≤ i
    → known_behind old (all_of (drop i ds)) ≡ whole → old ≡ whole
read_all ds i old whole past so =
    sym (behind_none old) ∙ ap (λ rs. known_behind old (all_of rs)) (sym (none_left ds i past)) ∙ so
