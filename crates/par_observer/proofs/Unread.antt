-- Why a source is not judged by its meaning: the rule that is broken, and the place, which lies in
-- the source or behind its last byte.
use Rattle.std.proofs.Common.{◌≡◌, ℕ, ◌≤◌, List, length, arith, refl, ap, Result, Ok, Err}
use Rattle.std.proofs.Common.{subst, sym}
use Rattle.std.specs.Prelude.{IsErrAnd}
use Rattle.std.specs.Result.{IfErr}
use Rattle.par_lexer.specs.declared.token.Token.{Token}
use Rattle.par_lexer.specs.declared.token.LexError.{LexError}
use Rattle.par_lexer.specs.declared.token.LexError.TheVariants.{BadByte, NumberTooLarge}
use Rattle.par_lexer.specs.declared.token.LexError.TheVariants.{OpenComment, NameTooLong}
use Rattle.par_lexer.specs.declared.token.LexError.TheVariants.{SourceTooLong, Memory}
use Rattle.par_lexer.specs.Tokens.{HasTokens, LexBroken}
use Rattle.par_lexer.specs.Spans.{IsFaultWithin}
use Rattle.par_lexer.proofs.Refusals.{broken_within}
use Rattle.par_grammar.specs.Derivation.{Fault}
use Rattle.par_tree.specs.Plain.{Source}
use Rattle.par_parser.specs.Sentence.{HasFault, rule_of, before, place_of}
use Rattle.par_refusals.specs.declared.refusal.Refusal.{Refusal}
use Rattle.par_refusals.specs.First.{broken}
use Rattle.par_observer.specs.declared.error.JudgeError.{JudgeError}
use Rattle.par_observer.specs.declared.error.JudgeError.TheVariants as judged
use Rattle.par_observer.specs.Judgements.{IsFaultOf, BreaksAs, IsBrokenAs, IsStoppedAs, IsUnread}
use Rattle.par_observer.specs.Judgements.{has_no_tokens, is_no_sentence, has_tree}

within_source : (source : List ℕ) (error : LexError) (f : Refusal)
    → IsFaultWithin 0 (length source) error → IsFaultOf error f → f.at ≤ length source
within_source source (BadByte n) f within is =
    let at : f.at ≡ n = ap (λ (f : Refusal). f.at) is in omega (arith, within.1)
within_source source (NumberTooLarge n) f within is =
    let at : f.at ≡ n = ap (λ (f : Refusal). f.at) is in omega (arith, within.1)
within_source source (OpenComment n) f within is =
    let at : f.at ≡ n = ap (λ (f : Refusal). f.at) is in omega (arith, within.1)
within_source source (NameTooLong n) f within is =
    let at : f.at ≡ n = ap (λ (f : Refusal). f.at) is in omega (arith, within.1)
within_source source (SourceTooLong n) f within is = absurd is
within_source source Memory f within is = absurd is

-- the source has no tokens
pub without_tokens : (source : List ℕ) (error : LexError) (f : Refusal) → LexBroken source error
    → IsFaultOf error f → IsBrokenAs (λ tree f. ⊥) source f
without_tokens source error f broken is = (
  has_no_tokens error broken is,
  within_source source error f (broken_within source error broken) is,
)

-- its tokens are no sentence
pub without_sentence : (source : List ℕ) (tokens : List Token) (fault : Fault) (rule at : ℕ)
    → HasTokens source tokens → HasFault tokens fault
    → rule ≡ rule_of fault → at ≡ place_of tokens (length source) (before fault)
    → at ≤ length source → IsBrokenAs (λ tree f. ⊥) source (broken rule at)
without_sentence source tokens fault rule at cut found rule_is place_is within = (
  is_no_sentence tokens cut
      (record { fault = fault; found = found; rule_is = rule_is; place_is = place_is }) refl,
  within,
)

-- a source without a tree is refused whatever is asked of trees
any_breaks : (Of : Source → Refusal → Type 0) (source : List ℕ) (f : Refusal)
    → BreaksAs (λ tree f. ⊥) source f → BreaksAs Of source f
any_breaks Of source f (has_no_tokens error broken is) = has_no_tokens error broken is
any_breaks Of source f (is_no_sentence tokens cut refused plain) =
    is_no_sentence tokens cut refused plain
any_breaks Of source f (has_tree tree is_tree none) = absurd none

any_stops : (Of : Source → Refusal → Type 0) (source : List ℕ) (e : JudgeError)
    → IsUnread source e → IsStoppedAs Of source e
any_stops Of source (judged.Refused f) h = (any_breaks Of source f h.0, h.1)
any_stops Of source judged.Memory h = tt

-- where a call hands it on
pub stopped : {A : Type 0} (Of : Source → Refusal → Type 0) (source : List ℕ)
    (r : Result A JudgeError) (e : JudgeError) → IsErrAnd r (λ x. x ≡ e) → IsUnread source e
    → IfErr r (IsStoppedAs Of source)
stopped Of source (Ok a) e is h = tt
stopped Of source (Err x) e is h =
    any_stops Of source x (subst (IsUnread source) (sym is) h)
