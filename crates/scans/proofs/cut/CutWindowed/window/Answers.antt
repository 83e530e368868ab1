use Rattle.std.proofs.Common.{length, ap, arith}
use Rattle.reader.specs.Lent.{lent_at}
use Rattle.scans.proofs.Cutting.{whole_window, cut_window}
use Rattle.scans.proofs.cut.CutWindowed.window.Goals as goal

pub returns-then-n-to_come-clause-means : goal.returns-then-n-to_come-clause-means
returns-then-n-to_come-clause-means c = whole_window c.args.n (lent_at c.args.self.now.lent) _ c.args.self.now.fault c.window-lent.ensures.means (omega (arith, ap length c.to_come.ensures.bytes))

pub returns-else-n-to_come-clause-means : goal.returns-else-n-to_come-clause-means
returns-else-n-to_come-clause-means c = cut_window c.args.n (lent_at c.args.self.now.lent) _ c.args.self.now.fault c.window-lent.ensures.means (omega (arith, ap length c.to_come.ensures.bytes))
