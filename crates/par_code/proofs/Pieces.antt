-- What a push adds to a draft.
use Rattle.std.proofs.Common.{◌≡◌, ℕ, ◌+◌, ◌<◌, ◌≤◌, max, arith, List, [], ◌∷◌, ◌++◌, refl, ap}
use Rattle.std.proofs.Common.{append_assoc}
use Rattle.par_code_form.specs.declared.item.Item.{Item}
use Rattle.par_code_form.specs.declared.labelled.LabelFrame.{LabelFrame}
use Rattle.par_code_form.specs.declared.labelled.Handler.{Handler}
use Rattle.par_code.specs.declared.draft.Draft.{Draft}
use Rattle.par_code_form.specs.declared.item.Item.TheVariants.{Label}
use Rattle.par_code_form.specs.Code.{Words}
use Rattle.par_code_form.specs.Frames.{Types, frame}
use Rattle.par_code.specs.Drafts.{State, seen, put, put_handler, put_frame, take, reach, land}

pushed : {X : Type 0} (xs : List X) (x : X) (k : List X) → (xs ++ x ∷ []) ++ k ≡ xs ++ (x ∷ k)
pushed xs x k = append_assoc xs (x ∷ []) k

pub put_is : (d : Draft) (x : Item)
    → seen (record d { items = d.items ++ x ∷ [] }) ≡ put x (seen d)
unfolding put
put_is d x = λ i. record {
  items = λ k. pushed d.items x k i;
  handlers = λ k. d.handlers ++ k;
  frames = λ k. d.frames ++ k;
  next = d.next_label;
  most = d.most;
}

pub put_handler_is : (d : Draft) (x : Handler)
    → seen (record d { handlers = d.handlers ++ x ∷ [] }) ≡ put_handler x (seen d)
unfolding put_handler
put_handler_is d x = λ i. record {
  items = λ k. d.items ++ k;
  handlers = λ k. pushed d.handlers x k i;
  frames = λ k. d.frames ++ k;
  next = d.next_label;
  most = d.most;
}

pub put_frame_is : (d : Draft) (x : LabelFrame)
    → seen (record d { frames = d.frames ++ x ∷ [] }) ≡ put_frame x (seen d)
unfolding put_frame
put_frame_is d x = λ i. record {
  items = λ k. d.items ++ k;
  handlers = λ k. d.handlers ++ k;
  frames = λ k. pushed d.frames x k i;
  next = d.next_label;
  most = d.most;
}

-- labels are taken
pub take_is : (d : Draft) (count next : ℕ) → next ≡ d.next_label + count
    → seen (record d { next_label = next }) ≡ take count (seen d)
unfolding take
take_is d count next is = ap (λ n. seen (record d { next_label = n })) is

-- more operands, or no more
pub reach_more : (d : Draft) (h : ℕ) → d.most < h
    → seen (record d { most = h }) ≡ reach h (seen d)
unfolding reach
reach_more d h lt =
    let is : h ≡ max d.most h = omega arith in ap (λ n. seen (record d { most = n })) is

pub reach_same : (d : Draft) (h : ℕ) → h ≤ d.most → seen d ≡ reach h (seen d)
unfolding reach
reach_same d h le =
    let is : d.most ≡ max d.most h = omega arith in ap (λ n. seen (record d { most = n })) is

-- a label with its frame
pub land_is : (v : Words) (n : ℕ) (scope os : Types) (s : State)
    → land v n scope os s ≡ put_frame (frame v n scope os) (put (Label n) s)
unfolding land
land_is v n scope os s = refl

pub ruleset pushes =
    (put_is, put_handler_is, put_frame_is, take_is, reach_more, reach_same, land_is)
