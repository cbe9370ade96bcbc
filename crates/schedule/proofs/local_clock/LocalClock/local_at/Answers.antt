use Rattle.std.proofs.Common.{◌≡◌, arith, w32, w64, to_z, of_z}
use borrow.Author.Differences.{ints}
use Rattle.schedule.specs.Boundaries.{local_at}
use Rattle.schedule.proofs.Locals.{bounded}
use Rattle.schedule.proofs.local_clock.LocalClock.local_at.Goals as goal

pub returns : goal.returns
unfolding local_at
returns g c =
    let west = c.args.self.now.tables.now.zone.west in
    let east = c.args.self.now.tables.now.zone.east in
    let zone : to_z w32 (of_z w32 c.args.self.now.tables.now.offset) ≡ c.args.self.now.tables.now.offset = omega (arith, ints) in
    let most = bounded c.args.second (to_z w32 (of_z w32 c.args.self.now.tables.now.offset)) c.in_summer.result c.ranges.second.fits (omega (arith, ints)) (omega (arith, ints)) in
    let same : to_z w64 (of_z w64 c.local_time.result) ≡ c.local_time.result = omega (arith, ints) in
    record { answer = cc; reach = record { from = omega (arith, ints); to = omega (arith, ints) } }
