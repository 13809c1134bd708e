-- Files that show a secure program are secure.
use Rattle.std.proofs.Common.{◌≡◌, ℕ, zero, suc, ◌<◌, inl, inr, Bool, true, ◌&&◌, Some, List, []}
use Rattle.std.proofs.Common.{◌∷◌, ◌++◌, take, All, refl, sym, ap, ◌∙◌, subst, arith}
use Rattle.std.specs.Prelude.{IsTrue, slice_get}
use Rattle.std.specs.List.{filter, list_any}
use Rattle.std.specs.Str.{bytes_eq}
use Rattle.std.proofs.lemmas.Bool.{false_from_ne_true, cases_Bool}
use Rattle.std.proofs.lemmas.List.{take-append-le}
use Rattle.std.proofs.lemmas.List.Elements.{All-head, All-tail, All-weaker, filter-append}
use Rattle.std.proofs.lemmas.Option.{slice_get_within}
use Rattle.std.proofs.lemmas.Slice.Eq.{bytes_eq-Decides}
use Rattle.par_values.specs.declared.run.Event.{Event}
use Rattle.par_values.specs.declared.inputs.Inputs.{Inputs}
use Rattle.par_values.specs.declared.inputs.ChannelInput.{ChannelInput}
use Rattle.par_secrecy.specs.Runs.{Witnessed}
use Rattle.par_secrecy.specs.Subject.{Name, InputChannel, Subject, is_of, Fits}
use Rattle.par_secrecy.specs.Shown.{Observer, sees, Alike}
use Rattle.par_secrecy.specs.Secure.{Secure, events, NextAgree}
use Rattle.par_secrecy.specs.Target.{Target, fitting, FitsFiles}
use Rattle.par_secrecy.specs.Shows.{Shows, IsFrontOf}
use Rattle.par_secrecy.specs.SecureFiles.{Witnesses, seen}
use Rattle.par_secrecy.specs.ShownFiles.{ShownFilesAreSecure}

-- a filter keeps what passes
pub all_kept : {X : Type 0} (p : X → Bool) (xs : List X) → All (λ x. IsTrue (p x)) xs
    → filter p xs ≡ xs
all_kept p [] h = refl
all_kept p (x ∷ xs) h =
    let first : p x ≡ true = All-head (λ x. IsTrue (p x)) x xs h in
    rw first (ap (λ ys. x ∷ ys) (all_kept p xs (All-tail (λ x. IsTrue (p x)) x xs h)))

-- on inputs that fit the files nothing is left out
pub fitting_same : (target : Target) (inputs : Inputs) → FitsFiles target inputs
    → fitting target inputs ≡ inputs
fitting_same target inputs h =
    let lines : fitting target inputs ≡ record { channels = inputs.channels } =
    ap (λ (ls : List ChannelInput). record { channels = ls })
    (all_kept (λ line. target.has_input line.class line.channel) inputs.channels h.there) in
    lines

bytes_turned : (m n : Name) → bytes_eq m n ≡ true → bytes_eq n m ≡ true
bytes_turned m n h = (bytes_eq-Decides n m).1 (sym ((bytes_eq-Decides m n).0 h))

pub bytes_swapped : (m n : Name) → bytes_eq m n ≡ bytes_eq n m
bytes_swapped m n =
    elim (cases_Bool (bytes_eq n m)) [
      | inl e ↦ bytes_turned n m e ∙ sym e
      | inr e ↦ false_from_ne_true (bytes_eq m n) (λ h. cc (bytes_turned m n h)) ∙ sym e
    ]

-- a channel that the program has, named the one way or the other
declared_by : (cs : List InputChannel) (line : ChannelInput)
    → list_any (λ c. bytes_eq c.class line.class && bytes_eq c.name line.channel) cs
    ≡ list_any (λ c. is_of c.class c.name line) cs
declared_by [] line = refl
declared_by (c ∷ cs) line =
    rw (
      bytes_swapped c.class line.class,
      bytes_swapped c.name line.channel,
      declared_by cs line,
    ) refl

-- inputs that fit the files fit the program
pub fits_program : (target : Target) (subject : Subject) (inputs : Inputs) → Shows target subject
    → FitsFiles target inputs → Fits subject inputs
fits_program target subject inputs shows h = record {
  declared =
      All-weaker (λ line. IsTrue (target.has_input line.class line.channel))
      (λ line. IsTrue (list_any (λ c. is_of c.class c.name line) subject.inputs))
      (λ line there. subst IsTrue (declared_by subject.inputs line)
      (shows.channels line.class line.channel there)) inputs.channels h.there;
  once = h.once;
  numbers = h.numbers;
}

-- where some events come first among those of a run, the run splits behind them
pub record Splits (es : List Event) (ws : List Witnessed) : Type 0 where
  pub first : List Witnessed
  pub rest : List Witnessed
  pub are : events first ≡ es
  pub joined : ws ≡ first ++ rest

split : (es more : List Event) (ws : List Witnessed) → events ws ≡ es ++ more → Splits es ws
split [] more ws h = record { first = []; rest = ws; are = refl; joined = refl }
split (e ∷ es) more [] h = cc
split (e ∷ es) more (w ∷ ws) h =
    let here : w.event ≡ e = cc in
    let behind : events ws ≡ es ++ more = cc in
    let s = split es more ws behind in
    record {
      first = w ∷ s.first;
      rest = s.rest;
      are = ap (λ es. w.event ∷ es) s.are ∙ ap (λ d. d ∷ es) here;
      joined = ap (λ vs. w ∷ vs) s.joined;
    }

-- what stands at a place, and what stands before it, is the same where more follows
pub get_longer : (xs more : List Witnessed) (k : ℕ) (a : Witnessed) → slice_get xs k ≡ Some a
    → slice_get (xs ++ more) k ≡ Some a
get_longer [] more k a h = cc
get_longer (x ∷ xs) more zero a h = h
get_longer (x ∷ xs) more (suc k) a h = get_longer xs more k a h

pub take_longer : (xs more : List Witnessed) (k : ℕ) (a : Witnessed) → slice_get xs k ≡ Some a
    → take k (xs ++ more) ≡ take k xs
take_longer xs more k a h =
    let below = slice_get_within xs k a h in take-append-le k xs more (omega arith)

-- what agrees next does so where both are cut short
agree_cut : (o : Observer) (xs ys us vs : List Witnessed) (k : ℕ)
    → NextAgree o (xs ++ us) (ys ++ vs) k → NextAgree o xs ys k
agree_cut o xs ys us vs k h a b p q e has_one has_other =
    h a b (get_longer xs us k a p) (get_longer ys vs k b q)
    (ap events (take_longer xs us k a p) ∙ e ∙ sym (ap events (take_longer ys vs k b q)))
    has_one has_other

-- what is seen of more than some events is seen of these first
pub seen_more : (subject : Subject) (o : Observer) (all ws more : List Witnessed) → all ≡ ws ++ more
    → seen subject o all ≡ seen subject o ws ++ seen subject o more
seen_more subject o all ws more e =
    ap (seen subject o) e ∙ filter-append (λ w. sees o (subject.policy w.event)) ws more

module _ (target : Target) (subject : Subject) (shows : Shows target subject) where
  each_witnessed : (inputs : Inputs) → FitsFiles target inputs → (m : ℕ)
      → (ws : List Witnessed) × Witnesses target subject inputs m ws
  each_witnessed inputs h m =
      let front = shows.front inputs (fits_program target subject inputs shows h) m in
      let same : IsFrontOf (target.run inputs m) (subject.run inputs front.0) =
      subst (λ i. IsFrontOf (target.run i m) (subject.run inputs front.0))
      (fitting_same target inputs h) front.1 in
      let s =
      split (target.run inputs m).events (same.first).0 (subject.run inputs front.0).events
      (same.first).1 in
      (s.first, record { events_are = s.are; steps = front.0; more = s.rest; first = s.joined })

  agree_files : Secure subject → (o : Observer) → o.actor < subject.actors → (one other : Inputs)
      → FitsFiles target one → FitsFiles target other
      → Alike subject o one other → (m n k : ℕ) (ws vs : List Witnessed)
      → Witnesses target subject one m ws → Witnesses target subject other n vs
      → NextAgree o (seen subject o ws) (seen subject o vs) k
  agree_files secure o declared one other fits fits' alike m n k ws vs w v =
      let whole =
      secure o declared one other (fits_program target subject one shows fits)
      (fits_program target subject other shows fits') alike w.steps v.steps k in
      agree_cut o (seen subject o ws) (seen subject o vs) (seen subject o w.more)
      (seen subject o v.more) k
      (subst (λ xs. NextAgree o xs (seen subject o vs ++ seen subject o v.more) k)
      (seen_more subject o (subject.run one w.steps).events ws w.more w.first)
      (subst (λ ys. NextAgree o (seen subject o (subject.run one w.steps).events) ys k)
      (seen_more subject o (subject.run other v.steps).events vs v.more v.first) whole))

pub shown_files_are_secure : ShownFilesAreSecure
shown_files_are_secure target subject shows secure = record {
  witnessed = each_witnessed target subject shows;
  agree = agree_files target subject shows secure;
}
