-- The code of a method, from what its body adds to an empty draft.
use Rattle.std.proofs.Common.{◌≡◌, ℕ, ◌+◌, ◌-◌, ◌≤◌, max, Bool, if◌then◌else◌, List, [], ◌++◌}
use Rattle.std.proofs.Common.{length, take, replicate, map, min, refl, ap, sym, ◌∙◌, arith}
use Rattle.std.proofs.lemmas.List.{append-nil, length-map, length-take, take_all}
use Rattle.par_typed.specs.declared.ty.Ty.TheVariants as ty
use Rattle.par_typed.specs.declared.table.MethodInfo.{MethodInfo}
use Rattle.par_typed.specs.Plain.{TSta}
use Rattle.par_completes.specs.Typed.{completes}
use Rattle.par_code_form.specs.declared.labelled.Slot.{Slot}
use Rattle.par_code_form.specs.Code.{Words, no_loop, ending, code, body_code, body_handlers}
use Rattle.par_code_form.specs.Operands.{top}
use Rattle.par_code_form.specs.Frames.{Types, slot, frames}
use Rattle.par_code_form.specs.Method.{set_by_call, first_scope, labelled}
use Rattle.par_erase.specs.declared.program.PlainMethod.{PlainMethod}
use Rattle.par_erase.specs.Shown.{param_info, method_info}
use Rattle.par_code.specs.declared.draft.Draft.{Draft}
use Rattle.par_code.specs.Drafts.{seen}
use Rattle.par_code.specs.Statements.{nothing, with_sta, with_end}

-- how many locals a call sets
pub called_is : (m : PlainMethod)
    → set_by_call (method_info m) ≡ length m.params + (if m.is_static then 0 else 1)
called_is m =
    ap (λ n. n + (if m.is_static then 0 else 1)) (length-map m.params param_info)

-- the first locals, and none of the others
pub scope_is : (ls : Types) (c : ℕ)
    → take (length ls) (take c ls) ++ replicate (length ls - length (take c ls)) ty.Void
    ≡ take c ls ++ replicate (length ls - c) ty.Void
scope_is ls c =
    let long : length (take c ls) ≡ min c (length ls) = length-take c ls in
    let short : length (take c ls) ≤ length ls = omega (arith, long) in
    let left : length ls - length (take c ls) ≡ length ls - c = omega (arith, long) in
    ap (λ xs. xs ++ replicate (length ls - length (take c ls)) ty.Void)
    (take_all (length ls) (take c ls) short)
    ∙ ap (λ n. take c ls ++ replicate n ty.Void) left

-- a draft without code
pub begun : (d : Draft) → d.items ≡ [] → d.handlers ≡ [] → d.frames ≡ [] → d.next_label ≡ 0
    → d.most ≡ 0 → seen d ≡ nothing
begun d items handlers frames next most = λ i. record {
  items = λ k. items i ++ k;
  handlers = λ k. handlers i ++ k;
  frames = λ k. frames i ++ k;
  next = next i;
  most = most i;
}

module _ (w : Words) (m : MethodInfo) (b : TSta) (d : Draft)
    (h : seen d
    ≡ with_end (completes b) (with_sta w m.locals (first_scope m) no_loop b nothing)) where
  items_are : d.items ≡ body_code w b
  unfolding with_end with_sta
  items_are =
      sym (append-nil d.items) ∙ ap (λ s. s.items []) h
      ∙ ap (code w b no_loop 0) (append-nil (ending (completes b)))

  handlers_are : d.handlers ≡ body_handlers w b
  unfolding with_end with_sta
  handlers_are = sym (append-nil d.handlers) ∙ ap (λ s. s.handlers []) h

  frames_are : d.frames ≡ frames w m.locals b 0 (first_scope m) []
  unfolding with_end with_sta
  frames_are = sym (append-nil d.frames) ∙ ap (λ s. s.frames []) h

  most_is : d.most ≡ top b
  unfolding with_end with_sta
  most_is =
      let same : max 0 (top b) ≡ top b = omega arith in ap (λ s. s.most) h ∙ same

  -- with the code of the body, that of the method
  pub whole : (count : ℕ) (start : List Slot) → count ≡ length m.locals
      → start ≡ map (slot w) (take (set_by_call m) m.locals)
      → record {
        items = d.items;
        handlers = d.handlers;
        max_stack = d.most;
        max_locals = count;
        start = start;
        frames = d.frames;
      } ≡ labelled w m b
  whole count start many begins = λ i. record {
    items = items_are i;
    handlers = handlers_are i;
    max_stack = most_is i;
    max_locals = many i;
    start = begins i;
    frames = frames_are i;
  }

pub ruleset calls = (called_is, scope_is, take_all)
