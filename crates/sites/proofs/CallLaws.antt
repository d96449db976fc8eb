-- What the sizes and the tests of a fill say where they refuse nothing. Assumes nothing.
use mathlib.Core.Path.{◌≡◌}
use mathlib.Core.List.{List}
use Prim.Native.Nat.{ℕ, ◌*◌, ◌≤◌}
use native.Mathlib.Nat.{mul-le-mul}
use borrow.Author.Tests.{ltb-false}
use lib.Dec.{ltb}
use lib.Ieee.{Float}
use lib.ListN.{length, take}
use Rattle.answers.specs.Paper.{done, refuse, and_then}
use Rattle.answers.proofs.PaperLaws.{refuse-done}
use Rattle.values.specs.Lists.{values_allowed}
use Rattle.site_lines.specs.Sources.{lines_from, LineReady}
use Rattle.sites.specs.Calls.{line_sizes, column_sizes, row_sizes, plain_reply, scaled_u_reply, scaled_vt_reply, SiteSized}

-- ---- 1

line-done : (stride width chi : ℕ) → (line_sizes stride width chi).0 ≡ 0 → SiteSized stride width chi
unfolding line_sizes
line-done stride width chi e =
    let b₃ = refuse (ltb 4096 (width * chi)) (1, 0) done in
    let b₂ = refuse (ltb stride width) (1, 0) b₃ in
    let x = refuse-done (ltb 4096 stride) 0 0 (refuse (ltb 4096 chi) (1, 0) b₂) e in
    let y = refuse-done (ltb 4096 chi) 0 0 b₂ x.1 in
    let z = refuse-done (ltb stride width) 0 0 b₃ y.1 in
    let w = refuse-done (ltb 4096 (width * chi)) 0 0 done z.1 in
    record {
      stride-small = ltb-false 4096 stride x.0;
      chi-small = ltb-false 4096 chi y.0;
      inside = ltb-false stride width z.0;
      few = ltb-false 4096 (width * chi) w.0;
    }

pub columns-done : (stride left chi : ℕ) → (column_sizes stride left chi).0 ≡ 0 → (left ≤ 4096) × SiteSized stride (2 * left) chi
unfolding column_sizes
columns-done stride left chi e =
    let x = refuse-done (ltb 4096 left) 0 0 (line_sizes stride (2 * left) chi) e in
    (ltb-false 4096 left x.0, line-done stride (2 * left) chi x.1)

pub rows-done : (row_length chi physical right : ℕ) → (row_sizes row_length chi physical right).0 ≡ 0
    → (physical * right ≤ 4096 * 4096) × SiteSized row_length (physical * right) chi
unfolding row_sizes
rows-done row_length chi physical right e =
    let b = refuse (ltb 4096 right) (1, 0) (line_sizes row_length (physical * right) chi) in
    let x = refuse-done (ltb 4096 physical) 0 0 b e in
    let y = refuse-done (ltb 4096 right) 0 0 (line_sizes row_length (physical * right) chi) x.1 in
    (mul-le-mul (ltb-false 4096 physical x.0) (ltb-false 4096 right y.0), line-done row_length (physical * right) chi y.1)

-- chi lines of stride cells
pub source-small : {stride width chi : ℕ} → SiteSized stride width chi → chi * stride ≤ 4096 * 4096
source-small s = mul-le-mul s.chi-small s.stride-small

-- ---- 6 and 7

pub plain_ready : (source : List Float) (stride width chi room : ℕ) → SiteSized stride width chi → (plain_reply source stride width chi room).0 ≡ 0
    → LineReady stride width chi (length source) room
unfolding plain_reply
plain_ready source stride width chi room s e =
    let b = refuse (ltb room (2 * (width * chi))) (6, 1) (lines_from source stride width 0 chi) in
    let x = refuse-done (ltb (length source) (2 * (chi * stride))) 5 0 b e in
    let y = refuse-done (ltb room (2 * (width * chi))) 5 1 (lines_from source stride width 0 chi) x.1 in
    record {
      stride-small = s.stride-small;
      chi-small = s.chi-small;
      inside = s.inside;
      few = s.few;
      lines = ltb-false (length source) (2 * (chi * stride)) x.0;
      site = ltb-false room (2 * (width * chi)) y.0;
    }

pub scaled-u-ready : (source values : List Float) (stride width chi room : ℕ) → SiteSized stride width chi → (scaled_u_reply source values stride width chi room).0 ≡ 0
    → LineReady stride width chi (length source) room × (chi ≤ length values)
unfolding scaled_u_reply
scaled-u-ready source values stride width chi room s e =
    let a = and_then (lines_from source stride width 0 chi) (values_allowed 0 (take chi values)) in
    let b = refuse (ltb room (2 * (width * chi))) (6, 2) a in
    let x = refuse-done (ltb (length source) (2 * (chi * stride))) 5 0 (refuse (ltb (length values) chi) (6, 1) b) e in
    let y = refuse-done (ltb (length values) chi) 5 1 b x.1 in
    let z = refuse-done (ltb room (2 * (width * chi))) 5 2 a y.1 in (
      record {
        stride-small = s.stride-small;
        chi-small = s.chi-small;
        inside = s.inside;
        few = s.few;
        lines = ltb-false (length source) (2 * (chi * stride)) x.0;
        site = ltb-false room (2 * (width * chi)) z.0;
      },
      ltb-false (length values) chi y.0,
    )

pub scaled-vt-ready : (values source : List Float) (stride width chi room : ℕ) → SiteSized stride width chi → (scaled_vt_reply values source stride width chi room).0 ≡ 0
    → LineReady stride width chi (length source) room × (chi ≤ length values)
unfolding scaled_vt_reply
scaled-vt-ready values source stride width chi room s e =
    let a = and_then (values_allowed 0 (take chi values)) (lines_from source stride width 0 chi) in
    let b = refuse (ltb room (2 * (width * chi))) (6, 2) a in
    let x = refuse-done (ltb (length values) chi) 5 0 (refuse (ltb (length source) (2 * (chi * stride))) (6, 1) b) e in
    let y = refuse-done (ltb (length source) (2 * (chi * stride))) 5 1 b x.1 in
    let z = refuse-done (ltb room (2 * (width * chi))) 5 2 a y.1 in (
      record {
        stride-small = s.stride-small;
        chi-small = s.chi-small;
        inside = s.inside;
        few = s.few;
        lines = ltb-false (length source) (2 * (chi * stride)) y.0;
        site = ltb-false room (2 * (width * chi)) z.0;
      },
      ltb-false (length values) chi x.0,
    )
