use Rattle.std.proofs.Common.{arith}
use Rattle.par_lexer.specs.declared.token.LexError.TheVariants.{BadByte, NumberTooLarge}
use Rattle.par_lexer.specs.declared.token.LexError.TheVariants.{OpenComment, NameTooLong}
use Rattle.par_lexer.specs.declared.token.LexError.TheVariants.{SourceTooLong}
use Rattle.par_lexer.specs.Tokens.{IsRefusal}
use Rattle.par_observer.proofs.Unread.{without_tokens}
use Rattle.par_observer.proofs.sentence.tokens_of.Goals as goal

pub returns-in-BadByte-clause-unread : goal.returns-in-BadByte-clause-unread
returns-in-BadByte-clause-unread c =
    let refused : IsRefusal c.args.source.now (BadByte c.in-BadByte.at) =
    rw c.in-BadByte.is at c.in-Err.ensures.refused in
    without_tokens c.args.source.now
    (BadByte c.in-BadByte.at) c.broken.result refused.1 c.broken.ensures

pub returns-in-NumberTooLarge-clause-unread : goal.returns-in-NumberTooLarge-clause-unread
returns-in-NumberTooLarge-clause-unread c =
    let refused : IsRefusal c.args.source.now (NumberTooLarge c.in-NumberTooLarge.at) =
    rw c.in-NumberTooLarge.is at c.in-Err.ensures.refused in
    without_tokens c.args.source.now (NumberTooLarge c.in-NumberTooLarge.at)
    c.broken-in-NumberTooLarge.result refused.1 c.broken-in-NumberTooLarge.ensures

pub returns-in-OpenComment-clause-unread : goal.returns-in-OpenComment-clause-unread
returns-in-OpenComment-clause-unread c =
    let refused : IsRefusal c.args.source.now (OpenComment c.in-OpenComment.at) =
    rw c.in-OpenComment.is at c.in-Err.ensures.refused in
    without_tokens c.args.source.now (OpenComment c.in-OpenComment.at)
    c.broken-in-OpenComment.result refused.1 c.broken-in-OpenComment.ensures

pub returns-in-NameTooLong-clause-unread : goal.returns-in-NameTooLong-clause-unread
returns-in-NameTooLong-clause-unread c =
    let refused : IsRefusal c.args.source.now (NameTooLong c.in-NameTooLong.at) =
    rw c.in-NameTooLong.is at c.in-Err.ensures.refused in
    without_tokens c.args.source.now (NameTooLong c.in-NameTooLong.at)
    c.broken-in-NameTooLong.result refused.1 c.broken-in-NameTooLong.ensures

pub unreachable-requires : goal.unreachable-requires
unreachable-requires c =
    let length = c.in-SourceTooLong.field-0 in
    let refused : IsRefusal c.args.source.now (SourceTooLong length) =
    rw c.in-SourceTooLong.is at c.in-Err.ensures.refused in
    omega (arith, refused.0, c.requires)
