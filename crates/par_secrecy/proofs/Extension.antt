-- Runs that extend each other.
use Rattle.std.proofs.Common.{[], ◌∷◌, refl, sym, ap}
use Rattle.std.proofs.lemmas.List.{append-nil}
use Rattle.par_secrecy.specs.Runs.{Witnessed, Run, stopped, with_first}
use Rattle.par_secrecy.specs.Longer.{Extends}

pub extends_itself : (r : Run) → Extends r r
extends_itself r = record { events = ([], sym (append-nil r.events)); ended = λ p. refl }

-- each run extends one that was stopped before its first event
pub extends_stopped : (r : Run) → Extends stopped r
extends_stopped r = record { events = (r.events, refl); ended = λ p. absurd (p refl) }

pub extends_behind : (w : Witnessed) (r s : Run) → Extends r s
    → Extends (with_first w r) (with_first w s)
extends_behind w r s h = record {
  events = (h.events.0, ap (λ es. w ∷ es) h.events.1);
  ended = λ p. ap (with_first w) (h.ended p);
}
