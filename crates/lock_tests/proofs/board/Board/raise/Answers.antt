use Rattle.std.proofs.Common.{arith, ◌<◌, ◌≤◌, length}
use Rattle.lock_tests.proofs.Raising.{others_stay, own_rises, none_rises}
use Rattle.lock_tests.proofs.board.Board.raise.Goals as goal

pub returns-then-k-len-clause-others : goal.returns-then-k-len-clause-others
returns-then-k-len-clause-others c = others_stay _ _ _ _

pub returns-then-k-len-clause-own : goal.returns-then-k-len-clause-own
returns-then-k-len-clause-own c = let under : c.args.k < length c.args.self.now.cells.items = (let h = c.if-k-len.true in let len = c.len.ensures in let ok = c.args.self.now.cells.ok.0 in omega arith) in
    own_rises _ c.args.self.now.cells.items c.args.k _ c.saturating_add.result under c.index.ensures c.saturating_add.ensures

pub returns-else-k-len-clause-own : goal.returns-else-k-len-clause-own
returns-else-k-len-clause-own c = let past : length c.args.self.now.cells.items ≤ c.args.k = (let h = c.if-k-len.false in let len = c.len.ensures in let ok = c.args.self.now.cells.ok.0 in omega arith) in
    none_rises c.args.self.now.job c.args.self.now.cells.items c.args.k past
