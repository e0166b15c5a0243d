-- The secrecy of a batch holds of figures that are decomposed (specs/Example.antt).
use Prim.Native.Nat.{ℕ, ◌<◌}
use mathlib.Core.Path.{refl}
use native.Mathlib.Omega.{arith}
use lib.ListN.{get_or, get_or-replicate, replicate}
use Rattle.ring.specs.Rings.{modulus, ring_of}
use Rattle.gate.specs.Places.{p1}
use Rattle.gate.proofs.PlaceLaw.{each}
use Rattle.circuit.specs.Circuits.{upto}
use Rattle.circuit.specs.Decompose.{decompose_gates}
use Rattle.circuit.specs.Orders.{decomposition}
use Rattle.machine.specs.Checks.{any_bad, any_outside, first_met}
use Rattle.lanes.specs.Lanes.{count}
use Rattle.batch.specs.Batch.{batch, checks}
use Rattle.batch.specs.Example.{Accepts, Applies, others, run, zeros}
use Rattle.batch.proofs.Secrecy.{batch_secret}

pub accepts : Accepts
unfolding batch checks first_met any_bad any_outside decomposition decompose_gates upto modulus ring_of
accepts = record { these = refl; those = refl }

small : (v k : ℕ) → v < modulus 31 → k < count → get_or (run v) k 0 < modulus 31
small v k h inside = rw (get_or-replicate {A = ℕ} count k v 0 inside) h

pub applies : Applies
unfolding modulus
applies =
    batch_secret 31 2 p1 (replicate 7 1) (replicate 7 1) zeros others
    (record { below = each _ (λ k. small 0 k (omega arith)) (λ k. small 0 k (omega arith)) (λ k. small 0 k (omega arith)) })
    (record { below = each _ (λ k. small 5 k (omega arith)) (λ k. small 0 k (omega arith)) (λ k. small 0 k (omega arith)) })
    (record { own = refl; far = refl; long = refl })
