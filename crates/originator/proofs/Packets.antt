-- The packets of a window, one after another.
use Rattle.std.proofs.Common.{◌≡◌, ℕ, ◌+◌, ◌-◌, ◌≤◌, List, [], ◌∷◌, ◌++◌, arith, append_assoc}
use Rattle.std.proofs.lemmas.List.FromFn.{map-range_with_len_more}
use Rattle.bus_frame.specs.Frames.{CanFrame}
use Rattle.originator.specs.Link.{Link}
use Rattle.originator.specs.Pump.{packet_frame, packet_frames}

-- up to packet k, and then packet k
pub packet_frames_more : (link : Link) (next : ℕ) (bytes : List ℕ) (first k : ℕ) → first ≤ k → packet_frames link next bytes first (k + 1 - first) ≡ packet_frames link next bytes first (k - first) ++ packet_frame link next bytes k ∷ []
packet_frames_more link next bytes first k h =
    let e : k + 1 - first ≡ (k - first) + 1 = omega arith in
    rw e (map-range_with_len_more (packet_frame link next bytes) first (k - first) k (omega arith))

-- a burst that has the packets before packet k, and then packet k
pub pushed_more : (link : Link) (next : ℕ) (bytes : List ℕ) (first k : ℕ) (before burst after : List CanFrame) (frame : CanFrame) → first ≤ k → burst ≡ before ++ packet_frames link next bytes first (k - first) → frame ≡ packet_frame link next bytes k → after ≡ burst ++ frame ∷ [] → after ≡ before ++ packet_frames link next bytes first (k + 1 - first)
pushed_more link next bytes first k before burst after frame h e f g =
    rw (packet_frames_more link next bytes first k h, g, e, f) (append_assoc before (packet_frames link next bytes first (k - first)) (packet_frame link next bytes k ∷ []))
