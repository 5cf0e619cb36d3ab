use Rattle.std.proofs.Common.{◌≡◌, ℕ, ◌+◌, ◌-◌, ◌%◌, ◌<◌, arith}
use Rattle.flight.proofs.flight.place_of.Goals as goal

place-turned : (base slot place : ℕ) → base < 256 → place ≡ ((slot + (256 - base)) % 256) % 64 → (base + place) % 64 ≡ slot % 64
place-turned base slot place small is = omega arith

pub returns-clause-slot : goal.returns-clause-slot
returns-clause-slot c = place-turned c.args.base c.args.slot _ c.ranges.base.fits c.from.ensures
