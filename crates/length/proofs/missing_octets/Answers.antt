-- `missing_octets` is what is missing by the first octet: none at all, one octet alone, or by a length field.
-- Each arm settles a test of the form by which an unknown element is measured.
use mathlib.Core.Path.{sym}
use native.Mathlib.Omega.{arith}
use borrow.Author.Tests.{le-leb, lt-leb}
use Rattle.definitions.specs.Length.{unknown_form}
use Rattle.definitions.proofs.Length.{missing-none, missing-by, lacking-one}
use Rattle.length.proofs.First.{first-is, first-none}
use Rattle.length.proofs.missing_octets.Goals as goal

pub returns-in-None : goal.returns-in-None
returns-in-None c = let a = c.args in sym (missing-none a.tlve_start a.octets.now (first-none _ c.in-None.ensures.value))

pub returns-in-Some : goal.returns-in-Some
unfolding unknown_form
returns-in-Some c =
    let a = c.args in
    let x = c.in-Some.field-0.now in
    let f = first-is a.octets.now x c.in-Some.ensures.value in
    rw (missing-by a.tlve_start a.octets.now f.0, f.1, le-leb 128 x (omega arith)) (sym (lacking-one a.octets.now f.0))

pub returns-in-Some-2 : goal.returns-in-Some-2
unfolding unknown_form
returns-in-Some-2 c =
    let a = c.args in
    let x = c.in-Some.field-0.now in
    let f = first-is a.octets.now x c.in-Some.ensures.value in
    rw (missing-by a.tlve_start a.octets.now f.0, f.1, lt-leb 128 x (omega arith), le-leb a.tlve_start x (omega arith)) c.tlve_missing.ensures

pub returns-in-Some-3 : goal.returns-in-Some-3
unfolding unknown_form
returns-in-Some-3 c =
    let a = c.args in
    let x = c.in-Some.field-0.now in
    let f = first-is a.octets.now x c.in-Some.ensures.value in
    rw (missing-by a.tlve_start a.octets.now f.0, f.1, lt-leb 128 x (omega arith), lt-leb a.tlve_start x (omega arith)) c.tlv_missing.ensures
