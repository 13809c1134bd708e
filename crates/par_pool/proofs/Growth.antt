-- What a pool keeps while it grows.
use Rattle.std.proofs.Common.{◌≡◌, ℕ, zero, suc, ◌+◌, ◌<◌, ◌≤◌, List, [], ◌++◌, length, Some, sym}
use Rattle.std.proofs.Common.{ap, subst, ◌∙◌, append_assoc, length-append, arith}
use Rattle.std.proofs.lemmas.Option.{none-some, slice_get_within, slice_get-get_or}
use Rattle.std.proofs.lemmas.Option.{get_or_from_slice_get}
use Rattle.std.proofs.lemmas.List.{get_or_append_left, append-nil}
use Rattle.std.proofs.lemmas.List.Elements.{All-nil, All-append, All-weaker}
use Rattle.par_pool.specs.declared.constant.Constant.{Constant}
use Rattle.par_pool.specs.Entries.{IsAt, IsClassAt, IsNameTypeAt}
use Rattle.par_pool.specs.Growth.{Adds}

pub at-append : (old more : List Constant) (i : ℕ) (c : Constant) → IsAt old i c
    → IsAt (old ++ more) i c
at-append old more zero c h = absurd (none-some c h)
at-append old more (suc i) c h =
    let lt : i < length old = slice_get_within old i c h in
    slice_get-get_or (old ++ more) i c (omega (arith, length-append old more))
    ∙ ap (λ (x : Constant). Some x)
    (get_or_append_left old more c i lt ∙ get_or_from_slice_get old i c c h)

-- an earlier index keeps its entry
pub at_kept : (old new : List Constant) (few : ℕ) (P : Constant → Type 0) → Adds old new few P
    → (i : ℕ) (c : Constant) → IsAt old i c → IsAt new i c
at_kept old new few P a i c h =
    subst (λ (pool : List Constant). IsAt pool i c) (sym a.behind) (at-append old a.more i c h)

-- an earlier index names the same class
pub class_kept : (old new : List Constant) (few : ℕ) (P : Constant → Type 0) → Adds old new few P
    → (i : ℕ) (name : List ℕ) → IsClassAt old i name → IsClassAt new i name
class_kept old new few P a i name h =
    record {
      text = h.text;
      entry = at_kept old new few P a i _ h.entry;
      is_name = at_kept old new few P a h.text _ h.is_name;
    }

-- an earlier index names the same name and descriptor
pub name_type_kept : (old new : List Constant) (few : ℕ) (P : Constant → Type 0)
    → Adds old new few P → (i : ℕ) (name descriptor : List ℕ) → IsNameTypeAt old i name descriptor
    → IsNameTypeAt new i name descriptor
name_type_kept old new few P a i name descriptor h = record {
  first = h.first;
  second = h.second;
  entry = at_kept old new few P a i _ h.entry;
  is_name = at_kept old new few P a h.first _ h.is_name;
  is_descriptor = at_kept old new few P a h.second _ h.is_descriptor;
}

-- a pool that stays adds nothing
pub adds_nothing : (old new : List Constant) (few : ℕ) (P : Constant → Type 0) → new ≡ old
    → Adds old new few P
adds_nothing old new few P e =
    record { more = []; behind = e ∙ sym (append-nil old); number = omega arith; parts = All-nil P }

-- two growths, one after the other
pub adds_then : (a b c : List Constant) (f g h : ℕ) (P Q R : Constant → Type 0) → Adds a b f P
    → Adds b c g Q → f + g ≤ h → ((x : Constant) → P x → R x) → ((x : Constant) → Q x → R x)
    → Adds a c h R
adds_then a b c f g h P Q R p q le p-is q-is = record {
  more = p.more ++ q.more;
  behind =
      q.behind ∙ ap (λ (pool : List Constant). pool ++ q.more) p.behind
      ∙ append_assoc a p.more q.more;
  number = omega (arith, length-append p.more q.more, p.number, q.number);
  parts =
      All-append R p.more q.more (All-weaker P R p-is p.more p.parts)
      (All-weaker Q R q-is q.more q.parts);
}
