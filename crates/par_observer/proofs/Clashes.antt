-- A source has one verdict at most.
use Rattle.std.proofs.Common.{◌≡◌, ℕ, List, [], ◌∷◌, None, Ok, Err, subst, ap}
use Rattle.std.specs.Prelude.{Contains}
use Rattle.par_lexer.specs.declared.token.Token.{Token}
use Rattle.par_lexer.specs.declared.token.LexError.{LexError}
use Rattle.par_lexer.specs.Tokens as lexed
use Rattle.par_lexer.specs.Tokens.{HasTokens, LexBroken}
use Rattle.par_lexer.proofs.Cuts as cuts
use Rattle.par_grammar.specs.Derivation.{Fault, Input, Outcome}
use Rattle.par_grammar.proofs.Total as total
use Rattle.par_parser.specs.Sentence as syntax
use Rattle.par_parser.specs.Sentence.{IsSentence, HasFault}
use Rattle.par_tree.specs.Plain.{Source}
use Rattle.par_tree.specs.Values as whole
use Rattle.par_policy.proofs.Ordered.{Contains-nil}
use Rattle.par_refusals.specs.declared.refusal.Refusal.{Refusal}
use Rattle.par_typed.specs.declared.table.Table.{Table}
use Rattle.par_typed.specs.declared.program.Typed.{Typed}
use Rattle.par_refusals.proofs.First.{answer_passes_on}
use Rattle.par_typed.specs.Plain.{Body}
use Rattle.par_resolved.specs.Resolved.{table_of}
use Rattle.par_table.specs.par_faults.Faults.{all_faults}
use Rattle.par_type_rules.specs.Program.{type_faults}
use Rattle.par_check_laws.specs.Verdict.{IsAccepted, IsBroken, Fails}
use Rattle.par_observer.specs.Passes.{typing_faults}
use Rattle.par_observer.specs.Trees.{IsAcceptedTree, IsTypedTree, BreaksRule, BreaksTyping}
use Rattle.par_observer.specs.Trees.{has_fault, has_flow}
use Rattle.par_observer.specs.Judgements.{BreaksAs, Breaks, has_no_tokens, is_no_sentence}
use Rattle.par_observer.specs.Judgements.{has_tree}
use Rattle.par_observer.specs.Judgements.{IsTreeOf, IsAcceptedSource}

-- a source has one list of tokens at most
one_cut : (source : List ℕ) (one other : List Token) → HasTokens source one
    → HasTokens source other → one ≡ other
one_cut source one other is was = let same = cuts.decided is was in cc

-- no source has tokens and a first fault
tokens_or_fault : (source : List ℕ) (tokens : List Token) (error : LexError)
    → HasTokens source tokens → LexBroken source error → ⊥
tokens_or_fault source tokens error cut broken =
    let has : lexed.Outcome = Ok tokens in
    let same : has ≡ Err error = cuts.decided cut broken in cc

-- no tokens are a sentence and at fault
sentence_or_fault : (tokens : List Token) (fault : Fault) → IsSentence tokens
    → HasFault tokens fault → ⊥
sentence_or_fault tokens fault sentence found =
    let well : Outcome whole.Value = Ok (whole.source sentence.0 ∷ [], sentence.1.0) in
    let same : well ≡ Err fault = total.decided sentence.1.1 found in cc

-- a source has one tree at most
pub one_tree : (source : List ℕ) (one other : Source) → IsTreeOf source one → IsTreeOf source other
    → one ≡ other
one_tree source one other is was =
    let same : is.tokens ≡ was.tokens =
    one_cut source is.tokens was.tokens is.cut was.cut in
    let derived : syntax.HasTree was.tokens one =
    subst (λ ts. syntax.HasTree ts one) same is.derived in
    let outcomes = total.decided derived.1 was.derived.1 in
    let ends : ◌≡◌ {A = List whole.Value × Input} (whole.source one ∷ [], derived.0)
    (whole.source other ∷ [], was.derived.0) = cc in
    let values : whole.source one ∷ [] ≡ whole.source other ∷ [] =
    ap (λ (end : List whole.Value × Input). end.0) ends in cc

-- closed facts that keep all rules break none
accepted_or_flow : (table : Table) (b : Body) (rule at : ℕ) → IsAccepted table b
    → IsBroken table b rule at → ⊥
accepted_or_flow table b rule at is broken =
    let fails : Fails table b rule at is.facts = broken is.facts is.closed in
    fails.broken (is.kept fails.check fails.asked)

-- no tree is accepted and broken
tree_or_broken : (tree : Source) (f : Refusal) → IsAcceptedTree tree → BreaksRule tree f → ⊥
tree_or_broken tree f is (has_fault first) =
    Contains-nil f (subst (λ fs. Contains fs f) is.faultless first.among)
tree_or_broken tree f is (has_flow faultless first) =
    let body : Body = first.body in
    let own : IsAccepted (table_of tree) body =
    is.accepted body first.there in
    accepted_or_flow (table_of tree) body f.rule f.at own first.breaks

-- a source whose tree is not refused so is not refused so
one_outcome : (Of : Source → Refusal → Type 0) (source : List ℕ) (tree : Source) (f : Refusal)
    → IsTreeOf source tree → (Of tree f → ⊥) → BreaksAs Of source f → ⊥
one_outcome Of source tree f is none (has_no_tokens error broken fault) =
    tokens_or_fault source is.tokens error is.cut broken
one_outcome Of source tree f is none (is_no_sentence tokens cut refused plain) =
    let same : is.tokens ≡ tokens = one_cut source is.tokens tokens is.cut cut in
    sentence_or_fault tokens refused.fault (subst IsSentence same (tree, is.derived))
    refused.found
one_outcome Of source tree f is none (has_tree other is_other breaks) =
    let same : other ≡ tree = one_tree source other tree is_other is in
    none (subst (λ (t : Source). Of t f) same breaks)

-- no source is accepted and broken
pub accepted_or_broken : (source : List ℕ) (f : Refusal) → IsAcceptedSource source
    → Breaks source f → ⊥
accepted_or_broken source f is =
    one_outcome BreaksRule source is.tree f is.is_tree (tree_or_broken is.tree f is.accepted)

-- a source that keeps all rules up to types breaks none of them
pub typed_or_broken : (source : List ℕ) (tree : Source) (f : Refusal) → IsTreeOf source tree
    → typing_faults tree ≡ [] → BreaksAs BreaksTyping source f → ⊥
typed_or_broken source tree f is none =
    one_outcome BreaksTyping source tree f is
    (λ first. Contains-nil f (subst (λ fs. Contains fs f) none first.among))

-- it has a typed program
pub typed_keeps : (tree : Source) (typed : Typed) → IsTypedTree tree typed
    → typing_faults tree ≡ []
typed_keeps tree typed is =
    answer_passes_on (all_faults tree) (type_faults (table_of tree) tree) None is.right
    is.typed_is.right
