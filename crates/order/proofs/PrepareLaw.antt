-- Orders 2 to 8, each from its verdict and its sources as the code finds them.
use Rattle.std.specs.Prelude.{Some, None, Option, Ok, Err}
use Rattle.std.specs.Option.{ok_or}
use Prim.Native.Nat.{ℕ, ◌-◌, ◌≤◌}
use mathlib.Core.Bool.{Bool, false, not, true, ◌&&◌}
use mathlib.Core.List.{List, [], ◌∷◌, ◌++◌}
use mathlib.Core.Path.{◌≡◌, refl, ap, ap₂, sym, ◌∙◌}
use borrow.Author.Tests.{not-false}
use lib.Dec.{T, leb}
use Rattle.ring.specs.Rings.{modulus, modulus_of, ring_of, width_of}
use Rattle.ring.specs.declared.rings.Ring.{Ring}
use Rattle.ring.proofs.RangeLaw.{width_named}
use Rattle.gate.specs.declared.sharing.Sharing.{Sharing}
use Rattle.circuit.specs.Circuits.{ends, result}
use Rattle.circuit.specs.Orders.{addition, composition, conversion, decomposition, multiplication, scaling, shifting}
use Rattle.machine.specs.Checks.{Check, a_number, any_above15, check, first_met, kind_checks, named, no_ring, two_numbers}
use Rattle.machine.specs.Registers.{Kind, Public, bits, count_at, kind_at, kind_of, number, public_of, register_at, shares_of, sound, width_at}
use Rattle.machine.specs.Work.{adjusts, computes, number_kind}
use Rattle.machine.specs.declared.answers.Refusal.{Refusal}
use Rattle.machine.specs.declared.orders.Order.{Order}
use Rattle.machine.specs.declared.orders.Order.TheVariants.{Add, Compose, Convert, Decompose, Multiply, Scale, Shift}
use Rattle.machine.specs.declared.registers.Machine.{Machine}
use Rattle.machine.specs.declared.registers.Register.{Register}
use Rattle.machine.specs.declared.registers.Register.TheVariants.{Bits, Number}
use Rattle.machine.proofs.SlotLaw.{kind-at}
use Rattle.machine.specs.Answers.{number_of}
use Rattle.order.specs.Attempts.{Prepares, begin_checks, record_refusal, some_bits}
use Rattle.order.specs.Sources.{first_source, sources_in}
use Rattle.order.specs.Tasks.{Seated, added_to, scaled_by}
use Rattle.order.specs.declared.sources.Sources.{Sources}
use Rattle.order.specs.declared.tasks.Prepared.TheVariants.{Gates, Local}
use Rattle.order.specs.declared.tasks.Task.TheVariants as task
use Rattle.order.proofs.CheckLaw.{fine_first, refused-first, refusing, unmet, unmet_rest}
use Rattle.order.proofs.SoundLaw.{few_bits, number_in, seated}
use Rattle.order.proofs.StepLaw.{because, gated, locally}

module _ (m : Machine) where
  pub kind_of_lem : (x : ℕ) {a : Register} → a ≡ register_at m x → kind_of a ≡ kind_at (public_of m) x
  kind_of_lem x at = ap kind_of at ∙ sym (kind-at m x)

  -- what an order that is not refused has passed
  module _ (o : Order) (fine : record_refusal o m ≡ 0) where
    pub good : sound m ≡ true
    unfolding record_refusal
    good = not-false (sound m) (unmet (not (sound m)) 1 _ refl fine)

    there : any_above15 (named o) ≡ false
    unfolding record_refusal
    there = unmet (any_above15 (named o)) 2 _ refl (unmet_rest (not (sound m)) 1 _ refl fine)

-- an order on one source: the checks of kinds, and then its own
pub record One (o : Order) (d x : ℕ) (kinds : Kind → List Check) (own : Kind → Check) : Type 0 where
  pub refuses : (k : Kind) → T (refusing (kinds k))
  pub names : named o ≡ d ∷ x ∷ []
  pub its : (p : Public) → kind_checks o p ≡ kinds (kind_at p x) ++ (own (kind_at p x) ∷ [])
  pub source : first_source o ≡ x

abbrev pub scale_own : ℕ → Kind → Check
scale_own c k = check (leb (modulus (width_at k)) c) 7

abbrev pub decompose_own : ℕ → Kind → Check
decompose_own l k = check (not (leb 1 l && leb l (width_at k - 2))) 7

abbrev pub shift_own : ℕ → Kind → Check
shift_own n k = check (not (leb n (width_at k - 3))) 7

abbrev pub ring_own : ℕ → Kind → Check
ring_own f k = check (no_ring (ring_of f)) 5

module _ (d x n : ℕ) where
  pub scale_one : One (Scale d x n) d x a_number (scale_own n)
  scale_one = record { refuses = λ k. tt; names = refl; its = λ p. refl; source = refl }

  pub decompose_one : One (Decompose d x n) d x a_number (decompose_own n)
  decompose_one = record { refuses = λ k. tt; names = refl; its = λ p. refl; source = refl }

  pub convert_one : One (Convert d x n) d x a_number (ring_own n)
  convert_one = record { refuses = λ k. tt; names = refl; its = λ p. refl; source = refl }

  pub shift_one : One (Shift d x n) d x a_number (shift_own n)
  shift_one = record { refuses = λ k. tt; names = refl; its = λ p. refl; source = refl }

  pub compose_one : One (Compose d x n) d x some_bits (ring_own n)
  compose_one = record { refuses = λ k. tt; names = refl; its = λ p. refl; source = refl }

module _ {o : Order} {d x : ℕ} {kinds : Kind → List Check} {own : Kind → Check} (one : One o d x kinds own) (m : Machine) {s : Sources}
    (from : s ≡ sources_in m o) where
  abbrev first_list : List Check
  first_list = begin_checks s.sound (d ∷ x ∷ []) ++ kinds (kind_of s.a)

  pub source_at : {a : Register} → s.a ≡ a → a ≡ register_at m x
  source_at is = sym is ∙ ap (λ (s : Sources). s.a) from ∙ ap (register_at m) one.source

  one_checks : record_refusal o m ≡ first_met (first_list ++ (own (kind_of s.a) ∷ []))
  unfolding record_refusal
  one_checks =
      ap₂ (λ (names : List ℕ) (ks : List Check). first_met (begin_checks (sound m) names ++ ks)) one.names (one.its (public_of m))
      ∙ ap₂ (λ (sure : Bool) (k : Kind). first_met (begin_checks sure (d ∷ x ∷ []) ++ (kinds k ++ (own k ∷ []))))
      (sym (ap (λ (s : Sources). s.sound) from)) (kind-at m x ∙ ap kind_of (sym (source_at refl)))

  -- refused for its kinds, or for its own number
  pub one_refused : (w : Refusal) → number_of w ≡ first_met first_list → Prepares o m d (Err w)
  one_refused w e =
      because o m d (one_checks ∙ sym (refused-first first_list (own (kind_of s.a) ∷ []) (one.refuses (kind_of s.a)) w e))

  pub own_refused : (w : Refusal) → 0 ≡ first_met first_list → {k : Kind} → kind_of s.a ≡ k → number_of w ≡ first_met (own k ∷ []) → Prepares o m d (Err w)
  own_refused w fine {k} is e =
      because o m d (one_checks ∙ sym (fine_first first_list (own (kind_of s.a) ∷ []) (one.refuses (kind_of s.a)) fine (rw is e)))

  pub one_fine : 0 ≡ first_met first_list → {k : Kind} → kind_of s.a ≡ k → 0 ≡ first_met (own k ∷ []) → record_refusal o m ≡ 0
  one_fine fine {k} is e =
      one_checks ∙ sym (fine_first first_list (own (kind_of s.a) ∷ []) (one.refuses (kind_of s.a)) fine (rw is e))

module _ (m : Machine) (o : Order) (d : ℕ) (names : List ℕ) (is : named o ≡ d ∷ names) (fine : record_refusal o m ≡ 0) where
  seat : Seated m d
  seat = seated m (good m o fine) d names (rw is at (there m o fine))

-- orders that are accepted, their sources found
module _ (m : Machine) (d x : ℕ) {r : Ring} {z : Sharing} (at : Number r z ≡ register_at m x) where
  kind : kind_at (public_of m) x ≡ number r
  kind = sym (kind_of_lem m x at)

  same : shares_of (register_at m x) ≡ z
  same = ap shares_of (sym at)

  pub scale_prepares : (c : ℕ) {y : Sharing} → record_refusal (Scale d x c) m ≡ 0 → y ≡ scaled_by (modulus_of r) z c
      → Prepares (Scale d x c) m d (Ok (Local (Number r y)))
  unfolding scaling result ends
  scale_prepares c fine e =
      locally (Scale d x c) m (scaling (modulus_of r) c) d x x (number r) (Number r _) fine
      (ap (λ (k : Kind). adjusts (scaling (modulus (width_at k)) c) d x x k) kind)
      refl
      (λ T. ap (Number r) (rw same (sym e)))
      (seat m (Scale d x c) d (x ∷ []) refl fine)

  pub decompose_prepares : (l : ℕ) → record_refusal (Decompose d x l) m ≡ 0 → 1 ≤ l → l ≤ width_of r - 2
      → Prepares (Decompose d x l) m d (Ok (Gates (task.Decompose r z l)))
  decompose_prepares l fine least most =
      gated (Decompose d x l) m d x x (task.Decompose r z l) fine
      (ap (λ (k : Kind). computes (decomposition (width_at k) l) d x x (bits l)) kind)
      same same (seat m (Decompose d x l) d (x ∷ []) refl fine)
      (record { source = number_in m (good m (Decompose d x l) fine) x at; least = least; most = most })

  pub shift_prepares : (n : ℕ) → record_refusal (Shift d x n) m ≡ 0 → n ≤ width_of r - 3
      → Prepares (Shift d x n) m d (Ok (Gates (task.Shift r z n)))
  shift_prepares n fine most =
      gated (Shift d x n) m d x x (task.Shift r z n) fine
      (ap (λ (k : Kind). computes (shifting (width_at k) n) d x x k) kind)
      same same (seat m (Shift d x n) d (x ∷ []) refl fine)
      (record { source = number_in m (good m (Shift d x n) fine) x at; most = most })

  pub convert_prepares : (f : ℕ) {g : Ring} → record_refusal (Convert d x f) m ≡ 0 → ring_of f ≡ Some g
      → Prepares (Convert d x f) m d (Ok (Gates (task.Convert r g z)))
  convert_prepares f {g} fine to =
      gated (Convert d x f) m d x x (task.Convert r g z) fine
      (ap (λ (k : Kind). computes (conversion (width_at k) f) d x x (number_kind (ring_of f))) kind
      ∙ ap (λ (w : Option Ring). computes (conversion (width_of r) f) d x x (number_kind w)) to
      ∙ ap (λ (w : ℕ). computes (conversion (width_of r) w) d x x (number g)) (width_named f to))
      same same (seat m (Convert d x f) d (x ∷ []) refl fine)
      (number_in m (good m (Convert d x f) fine) x at)

  -- and on another number of its ring
  module _ (y : ℕ) {t : Sharing} (other : Number r t ≡ register_at m y) where
    also : shares_of (register_at m y) ≡ t
    also = ap shares_of (sym other)

    pub add_prepares : {u : Sharing} → record_refusal (Add d x y) m ≡ 0 → u ≡ added_to (modulus_of r) z t
        → Prepares (Add d x y) m d (Ok (Local (Number r u)))
    unfolding addition result ends
    add_prepares fine e =
        locally (Add d x y) m (addition (modulus_of r)) d x y (number r) (Number r _) fine
        (ap (λ (k : Kind). adjusts (addition (modulus (width_at k))) d x y k) kind)
        refl
        (λ T. ap (Number r) (rw (same, also) (sym e)))
        (seat m (Add d x y) d (x ∷ y ∷ []) refl fine)

    pub multiply_prepares : record_refusal (Multiply d x y) m ≡ 0 → Prepares (Multiply d x y) m d (Ok (Gates (task.Multiply r z t)))
    multiply_prepares fine =
        gated (Multiply d x y) m d x y (task.Multiply r z t) fine
        (ap (λ (k : Kind). computes (multiplication (modulus (width_at k))) d x y k) kind)
        same also (seat m (Multiply d x y) d (x ∷ y ∷ []) refl fine)
        (record {
          left = number_in m (good m (Multiply d x y) fine) x at;
          right = number_in m (good m (Multiply d x y) fine) y other;
        })

pub compose_prepares : (m : Machine) (d x f : ℕ) {l : ℕ} {z : Sharing} {g : Ring} → Bits l z ≡ register_at m x → record_refusal (Compose d x f) m ≡ 0
    → ring_of f ≡ Some g → Prepares (Compose d x f) m d (Ok (Gates (task.Compose g z l)))
compose_prepares m d x f {l} {z} {g} at fine to =
    let o = Compose d x f in
    let same = ap shares_of (sym at) in
    gated o m d x x (task.Compose g z l) fine
    (ap (λ (k : Kind). computes (composition f (count_at k)) d x x (number_kind (ring_of f))) (sym (kind_of_lem m x at))
    ∙ ap (λ (w : Option Ring). computes (composition f l) d x x (number_kind w)) to
    ∙ ap (λ (w : ℕ). computes (composition w l) d x x (number g)) (width_named f to))
    same same (seat m o d (x ∷ []) refl fine)
    (few_bits m (good m o fine) x at)

-- an order on two sources
module _ (m : Machine) {s : Sources} (x y : ℕ) where
  pub pair_left : {a : Register} → s ≡ record { sound = sound m; a = register_at m x; b = register_at m y } → s.a ≡ a → a ≡ register_at m x
  pair_left from is = sym is ∙ ap (λ (s : Sources). s.a) from

  pub pair_right : {b : Register} → s ≡ record { sound = sound m; a = register_at m x; b = register_at m y } → s.b ≡ b → b ≡ register_at m y
  pair_right from is = sym is ∙ ap (λ (s : Sources). s.b) from

pub pair_checks : (m : Machine) (d x y : ℕ) {s : Sources} → s ≡ record { sound = sound m; a = register_at m x; b = register_at m y }
    → (o : Order) → named o ≡ d ∷ x ∷ y ∷ [] → kind_checks o (public_of m) ≡ two_numbers (kind_at (public_of m) x) (kind_at (public_of m) y)
    → record_refusal o m ≡ first_met (begin_checks s.sound (d ∷ x ∷ y ∷ []) ++ two_numbers (kind_of s.a) (kind_of s.b))
unfolding record_refusal
pair_checks m d x y from o names its =
    rw (names, its, from, kind_of_lem m x refl, kind_of_lem m y refl) refl

-- what a width that is parsed says
pub parsed : (o : Option Ring) (w : Refusal) {g : Ring} → ok_or o w ≡ Ok g → o ≡ Some g
parsed (Some r) w e = cc
parsed None w e = cc

pub unparsed : (o : Option Ring) (v w : Refusal) → ok_or o w ≡ Err v → (o ≡ None) × (v ≡ w)
unparsed (Some r) v w e = cc
unparsed None v w e = (refl, cc)
