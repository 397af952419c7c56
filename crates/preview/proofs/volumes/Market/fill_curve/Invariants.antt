use Rattle.std.proofs.Common.{◌≡◌, ◌≤◌}
use Rattle.model.specs.Grid.{count}
use Rattle.grid.specs.Views.{plain}
use Rattle.preview.proofs.Filling.{filled}
use Rattle.preview.proofs.volumes.Market.fill_curve.Given as goal

-- the first points are written, and the places after them are as they were
abbrev pub invariant-loop-place : goal.invariant-loop-place
invariant-loop-place l = (l.place ≤ count (plain l.self.settings.now)) × (l.scratch ≡ filled (plain l.self.settings.now) l.self.orders.now l.place l.initial.scratch)
