use Rattle.std.proofs.Common.{◌+◌, ◌*◌, length}
use Rattle.par_stmts.proofs.chain.+chain.Given as goal

-- by the tokens that are left, and for as many of those by the way to the next token
abbrev pub decreases-member : goal.decreases-member
decreases-member l = 4 * length l.cursor.now.left.now + 0

abbrev pub decreases-chain : goal.decreases-chain
decreases-chain l = 4 * length l.cursor.now.left.now + 2

abbrev pub decreases-member_selected : goal.decreases-member_selected
decreases-member_selected l = 4 * length l.cursor.now.left.now + 1

abbrev pub decreases-member_call : goal.decreases-member_call
decreases-member_call l = 4 * length l.cursor.now.left.now + 1

abbrev pub decreases-call_tail : goal.decreases-call_tail
decreases-call_tail l = 4 * length l.cursor.now.left.now + 1
