use Rattle.std.proofs.Common.{arith}
use Rattle.std.proofs.lemmas.Nat.{mul-le}
use Rattle.curve.proofs.prices.Run.price_at.Goals as goal

pub overflow_cast-result : goal.overflow_cast-result
overflow_cast-result c = omega (arith, mul-le c.args.self.now.count 1 c.args.self.now.count c.args.self.now.settings.now.tick (omega arith) (omega arith), c.args.self.now.small)

pub overflow_mul-result : goal.overflow_mul-result
overflow_mul-result c = omega (arith, mul-le c.args.place c.args.self.now.settings.now.tick c.args.self.now.count c.args.self.now.settings.now.tick (omega arith) (omega arith), c.args.self.now.small)

pub overflow_add-result : goal.overflow_add-result
overflow_add-result c = omega (arith, mul-le c.args.place c.args.self.now.settings.now.tick c.args.self.now.count c.args.self.now.settings.now.tick (omega arith) (omega arith), c.args.self.now.small)
