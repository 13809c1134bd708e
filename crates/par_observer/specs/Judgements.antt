-- What each judgement of a source says.
use Rattle.std.specs.Prelude.{◌≡◌, ℕ, ◌≤◌, ◌<◌, nat_lt, if◌then◌else◌, List, length}
use Rattle.par_lexer.specs.declared.token.Token.{Token}
use Rattle.par_lexer.specs.declared.token.LexError.{LexError}
use Rattle.par_lexer.specs.declared.token.LexError.TheVariants as lexical
use Rattle.par_lexer.specs.declared.cut.TheConstants.{LONGEST_SOURCE}
use Rattle.par_lexer.specs.Spans.{IsLaid}
use Rattle.par_lexer.specs.Tokens.{HasTokens, LexBroken}
use Rattle.par_tree.specs.Plain.{Source}
use Rattle.par_parser.specs.Bodies.{source_size}
use Rattle.par_parser.specs.Sentence as syntax
use Rattle.par_refusals.specs.declared.refusal.Refusal.{Refusal}
use Rattle.par_refusals.specs.First.{broken}
use Rattle.par_typed.specs.declared.program.Typed.{Typed}
use Rattle.par_observer.specs.declared.error.JudgeError.{JudgeError}
use Rattle.par_observer.specs.declared.error.JudgeError.TheVariants.{Refused, Memory}
use Rattle.par_observer.specs.Trees.{IsAcceptedTree, IsAcceptedTreeAs, IsTypedTree, BreaksRule}
use Rattle.par_observer.specs.Trees.{BreaksTyping}

abbrev pub Tokens : Type 0
Tokens = List Token

-- what a first fault of a source is refused by
abbrev pub IsFaultOf : LexError → Refusal → Type 0
IsFaultOf (lexical.BadByte n) f = f ≡ broken 1 n
IsFaultOf (lexical.NumberTooLarge n) f = f ≡ broken 2 n
IsFaultOf (lexical.OpenComment n) f = f ≡ broken 3 n
IsFaultOf (lexical.NameTooLong n) f = f ≡ broken 4 n
IsFaultOf (lexical.SourceTooLong n) f = ⊥
IsFaultOf lexical.Memory f = ⊥

-- a refusal without a limit
abbrev pub IsPlain : Refusal → Type 0
IsPlain f = f ≡ broken f.rule f.at

-- The source is a sentence within the nesting, and this is its tree.
pub record IsTreeOf (source : List ℕ) (tree : Source) : Type 0 where
  pub tokens : Tokens
  pub cut : HasTokens source tokens
  pub derived : syntax.HasTree tokens tree

-- The same, as it is read: each token lies in the source behind the one before, and the tree is no
-- larger than its tokens are many.
pub record IsReadAs (source : List ℕ) (tree : Source) : Type 0 where
  pub tokens : Tokens
  pub cut : HasTokens source tokens
  pub laid : IsLaid source tokens
  pub derived : syntax.HasTree tokens tree
  pub size : source_size tree ≤ length tokens

-- What a source that is not too long is refused by: it has no tokens, or they are no sentence
-- within the nesting, or its tree is refused so.
pub data BreaksAs (Of : Source → Refusal → Type 0) (source : List ℕ) (f : Refusal) : Type 0 where
  has_no_tokens : (error : LexError) → LexBroken source error → IsFaultOf error f
      → BreaksAs Of source f
  is_no_sentence : (tokens : Tokens) → HasTokens source tokens
      → syntax.IsRefused tokens (length source) f.rule f.at → IsPlain f → BreaksAs Of source f
  has_tree : (tree : Source) → IsTreeOf source tree → Of tree f → BreaksAs Of source f

-- its tree breaks a rule
abbrev pub Breaks : List ℕ → Refusal → Type 0
Breaks source f = BreaksAs BreaksRule source f

-- the same, and the place lies in the source or behind its last byte
abbrev pub IsBrokenAs : (Source → Refusal → Type 0) → List ℕ → Refusal → Type 0
IsBrokenAs Of source f = BreaksAs Of source f × (f.at ≤ length source)

abbrev pub IsBrokenBy : List ℕ → Refusal → Type 0
IsBrokenBy source f = IsBrokenAs BreaksRule source f

-- the greatest length that a refusal can tell
abbrev pub MOST_TOLD : ℕ
MOST_TOLD = 4294967295

-- the refusal of a source of this length
abbrev pub overlong : ℕ → Refusal
overlong n = record {
  rule = 5;
  at = 0;
  limit = 0;
  count = if nat_lt n MOST_TOLD then n else MOST_TOLD;
}

-- why a source of this length is refused
pub data IsRefusedAs (Of : Source → Refusal → Type 0) (source : List ℕ) (f : Refusal)
    : Type 0 where
  too_long : LONGEST_SOURCE < length source → f ≡ overlong (length source)
      → IsRefusedAs Of source f
  breaks : length source ≤ LONGEST_SOURCE → IsBrokenAs Of source f → IsRefusedAs Of source f

abbrev pub IsRefusedBy : List ℕ → Refusal → Type 0
IsRefusedBy source f = IsRefusedAs BreaksRule source f

-- memory may be wanting at any time
abbrev pub IsRefused : List ℕ → JudgeError → Type 0
IsRefused source (Refused f) = IsRefusedBy source f
IsRefused source Memory = Unit {0}

-- why a source has no typed program
abbrev pub IsUntyped : List ℕ → JudgeError → Type 0
IsUntyped source (Refused f) = IsRefusedAs BreaksTyping source f
IsUntyped source Memory = Unit {0}

-- why a pass over a source that is short enough stops
abbrev pub IsStoppedAs : (Source → Refusal → Type 0) → List ℕ → JudgeError → Type 0
IsStoppedAs Of source (Refused f) = IsBrokenAs Of source f
IsStoppedAs Of source Memory = Unit {0}

-- it has no tree
abbrev pub IsUnread : List ℕ → JudgeError → Type 0
IsUnread source e = IsStoppedAs (λ tree f. ⊥) source e

-- The source has a tree that keeps all rules.
pub record IsAcceptedSource (source : List ℕ) : Type 0 where
  pub tree : Source
  pub short : length source ≤ LONGEST_SOURCE
  pub is_tree : IsTreeOf source tree
  pub accepted : IsAcceptedTree tree

-- the same, and the typed program is that of its tree
pub record IsAcceptedAs (source : List ℕ) (typed : Typed) : Type 0 where
  pub tree : Source
  pub short : length source ≤ LONGEST_SOURCE
  pub is_tree : IsTreeOf source tree
  pub keeps : IsAcceptedTreeAs tree typed

-- the source has a tree, and this is its typed program
pub record IsTypedAs (source : List ℕ) (typed : Typed) : Type 0 where
  pub tree : Source
  pub short : length source ≤ LONGEST_SOURCE
  pub is_tree : IsTreeOf source tree
  pub keeps : IsTypedTree tree typed
