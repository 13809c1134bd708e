-- That there are few members goes for each class.
use Rattle.std.proofs.Common.{◌≡◌, ℕ, ◌<◌, List, map, Option, Some, None, length, get_or, subst}
use Rattle.std.proofs.Common.{◌∙◌, ap, refl, is_some, ltb, arith}
use Rattle.std.specs.Prelude.{slice_get, IfSome}
use Rattle.std.specs.Borrow.{Bor}
use Rattle.std.specs.Option.{option_map}
use Rattle.std.specs.List.{All}
use Rattle.std.proofs.lemmas.List.Elements.{All-get_or}
use Rattle.std.proofs.lemmas.Option.{slice_get_within, get_or_from_slice_get, slice_get-map}
use Rattle.std.proofs.lemmas.Option.{slice_get_read}
use Rattle.std.proofs.lemmas.Bool.Decides.{nat_tests}
use Rattle.par_scope.specs.declared.member_index.MemberIndex.{MemberIndex}
use Rattle.par_scope.specs.Names.{MemberNames, IsFewMembers}
use Rattle.par_scope.specs.Indexed.{members_indexed}

few_here : (xs : List MemberNames) (k : ℕ) (x : MemberNames) → All IsFewMembers xs
    → slice_get xs k ≡ Some x → IsFewMembers x
few_here xs k x all is =
    subst IsFewMembers (get_or_from_slice_get xs k x x is)
    (All-get_or IsFewMembers xs k x (slice_get_within xs k x is) all)

pub few_at : (xs : List MemberIndex) (k : ℕ) (o : Option (Bor MemberIndex))
    → All IsFewMembers (map members_indexed xs)
    → is_some o ≡ ltb k (length xs) → IfSome o (λ m. m.now ≡ get_or xs k m.now)
    → IfSome o (λ m. IsFewMembers (members_indexed m.now))
few_at xs k None all within is = tt
few_at xs k (Some m) all within is =
    let lt : k < length xs = grind (arith, nat_tests) in
    few_here (map members_indexed xs) k (members_indexed m.now) all
    (slice_get-map members_indexed xs k
    ∙ ap (option_map members_indexed) (slice_get_read xs (length xs) k m.now refl lt is))
