-- "Rows of a table" and "Examples under table P": table P, and the six real tables of TS 24.501, edition 16.8.0, in clause 8.
-- Each row's words say the element; docs/TABLES.md says where each number is from. The set of a half octet is over its sixteen
-- values, that of another form over eight.
use Rattle.std.specs.Prelude.{ℕ, zero, suc, List, [], ◌∷◌}
use Rattle.std.proofs.Math.Option.{Option, none, some}
use Rattle.definitions.specs.Basic.{concat}

-- an optional row with one IEI: its form's code (0 half octet, 1 fixed, 2 TLV, 3 TLV-E), size, least and greatest whole length, set
unfoldable pub row : ℕ → ℕ → ℕ → ℕ → ℕ → ℕ → List ℕ
row iei code size least greatest kinds = 1 ∷ iei ∷ 0 ∷ 0 ∷ 0 ∷ code ∷ size ∷ least ∷ greatest ∷ kinds ∷ []

-- a mandatory row: its form's code (0 low half, 1 high half, 2 fixed, 3 LV, 4 LV-E), size, least whole length, set
unfoldable pub plain : ℕ → ℕ → ℕ → ℕ → List ℕ
plain code size least kinds = code ∷ size ∷ least ∷ kinds ∷ []

-- table P
unfoldable pub table_p : List ℕ
table_p =
    concat
    (row 0xc0 0 0 0 1 7
    ∷ row 0x10 2 0 3 257 255
    ∷ row 0x52 1 2 0 3 255
    ∷ (2 ∷ 0x2f ∷ 0x31 ∷ 0 ∷ 0 ∷ 2 ∷ 0 ∷ 2 ∷ 257 ∷ 7 ∷ [])
    ∷ row 0x77 3 0 3 65538 255
    ∷ [])

-- registration request, optional rows
unfoldable pub optional1 : List ℕ
optional1 =
    concat
    (row 0xc0 0 0 1 1 65535  -- non-current native nas key set identifier, 9.11.3.32
    ∷ row 0x10 2 0 3 15 255  -- 5gmm capability, 9.11.3.1
    ∷ row 0x2e 2 0 4 10 255  -- ue security capability, 9.11.3.54
    ∷ row 0x2f 2 0 4 74 255  -- requested nssai, 9.11.3.37
    ∷ row 0x52 1 6 7 7 255  -- last visited registered tai, 9.11.3.8
    ∷ row 0x17 2 0 4 15 255  -- s1 ue network capability, 9.11.3.48
    ∷ row 0x40 2 0 4 34 255  -- uplink data status, 9.11.3.57
    ∷ row 0x50 2 0 4 34 255  -- pdu session status, 9.11.3.44
    ∷ row 0xb0 0 0 1 1 65535  -- mico indication, 9.11.3.31
    ∷ row 0x2b 2 0 3 3 255  -- ue status, 9.11.3.56
    ∷ row 0x77 3 0 14 14 255  -- additional guti, 9.11.3.4
    ∷ row 0x25 2 0 4 34 255  -- allowed pdu session status, 9.11.3.13
    ∷ row 0x18 2 0 3 3 255  -- ue's usage setting, 9.11.3.55
    ∷ row 0x51 2 0 3 3 255  -- requested drx parameters, 9.11.3.2A
    ∷ row 0x70 3 0 4 65538 255  -- eps nas message container, 9.11.3.24
    ∷ row 0x74 3 0 3 811 255  -- ladn indication, 9.11.3.29
    ∷ row 0x80 0 0 1 1 33278  -- payload container type, 9.11.3.40
    ∷ row 0x7b 3 0 4 65538 255  -- payload container, 9.11.3.39
    ∷ row 0x90 0 0 1 1 65535  -- network slicing indication, 9.11.3.36
    ∷ row 0x53 2 0 3 3 255  -- 5gs update type, 9.11.3.9A
    ∷ row 0x41 2 0 5 5 255  -- mobile station classmark 2, 9.11.3.31C
    ∷ row 0x42 2 0 5 257 255  -- supported codecs, 9.11.3.51A
    ∷ row 0x71 3 0 4 65538 255  -- nas message container, 9.11.3.33
    ∷ row 0x60 2 0 4 4 255  -- eps bearer context status, 9.11.3.23A
    ∷ row 0x6e 2 0 3 3 255  -- requested extended drx parameters, 9.11.3.26A
    ∷ row 0x6a 2 0 3 3 255  -- t3324 value, 9.11.2.5
    ∷ row 0x67 2 0 3 257 255  -- ue radio capability id, 9.11.3.68
    ∷ row 0x35 2 0 3 42 255  -- requested mapped nssai, 9.11.3.31B
    ∷ row 0x48 2 0 3 3 255  -- additional information requested, 9.11.3.12A
    ∷ row 0x1a 2 0 3 257 255  -- requested wus assistance information, 9.11.3.71
    ∷ row 0xa0 0 0 1 1 65535  -- n5gc indication, 9.11.3.72
    ∷ row 0x30 2 0 3 3 255  -- requested nb-n1 mode drx parameters, 9.11.3.73
    ∷ [])

-- registration request, mandatory rows
unfoldable pub mandatory1 : List ℕ
mandatory1 =
    concat
    (plain 0 0 0 32639  -- 5gs registration type, 9.11.3.7
    ∷ plain 1 0 0 65535  -- ngksi, 9.11.3.32
    ∷ plain 4 0 6 255  -- 5gs mobile identity, 9.11.3.4
    ∷ [])

-- registration accept, optional rows
unfoldable pub optional2 : List ℕ
optional2 =
    concat
    (row 0x77 3 0 14 14 255  -- 5g-guti, 9.11.3.4
    ∷ row 0x4a 2 0 5 47 255  -- equivalent plmns, 9.11.3.45
    ∷ row 0x54 2 0 9 114 255  -- tai list, 9.11.3.9
    ∷ row 0x15 2 0 4 74 255  -- allowed nssai, 9.11.3.37
    ∷ row 0x11 2 0 4 42 255  -- rejected nssai, 9.11.3.46
    ∷ row 0x31 2 0 4 146 255  -- configured nssai, 9.11.3.37
    ∷ row 0x21 2 0 3 5 255  -- 5gs network feature support, 9.11.3.5
    ∷ row 0x50 2 0 4 34 255  -- pdu session status, 9.11.3.44
    ∷ row 0x26 2 0 4 34 255  -- pdu session reactivation result, 9.11.3.42
    ∷ row 0x72 3 0 5 515 255  -- pdu session reactivation result error cause, 9.11.3.43
    ∷ row 0x79 3 0 12 1715 255  -- ladn information, 9.11.3.30
    ∷ row 0xb0 0 0 1 1 65535  -- mico indication, 9.11.3.31
    ∷ row 0x90 0 0 1 1 65535  -- network slicing indication, 9.11.3.36
    ∷ row 0x27 2 0 6 114 255  -- service area list, 9.11.3.49
    ∷ row 0x5e 2 0 3 3 255  -- t3512 value, 9.11.2.5
    ∷ row 0x5d 2 0 3 3 255  -- non-3gpp de-registration timer value, 9.11.2.4
    ∷ row 0x16 2 0 3 3 255  -- t3502 value, 9.11.2.4
    ∷ row 0x34 2 0 5 50 255  -- emergency number list, 9.11.3.23
    ∷ row 0x7a 3 0 7 65538 255  -- extended emergency number list, 9.11.3.26
    ∷ row 0x73 3 0 20 65538 255  -- sor transparent container, 9.11.3.51
    ∷ row 0x78 3 0 7 1503 255  -- eap message, 9.11.2.2
    ∷ row 0xa0 0 0 1 1 65535  -- nssai inclusion mode, 9.11.3.37A
    ∷ row 0x76 3 0 3 8323 255  -- operator-defined access category definitions, 9.11.3.38
    ∷ row 0x51 2 0 3 3 255  -- negotiated drx parameters, 9.11.3.2A
    ∷ row 0xd0 0 0 1 1 65535  -- non-3gpp nw policies, 9.11.3.36A
    ∷ row 0x60 2 0 4 4 255  -- eps bearer context status, 9.11.3.23A
    ∷ row 0x6e 2 0 3 3 255  -- negotiated extended drx parameters, 9.11.3.26A
    ∷ row 0x6c 2 0 3 3 255  -- t3447 value, 9.11.2.5
    ∷ row 0x6b 2 0 3 3 255  -- t3448 value, 9.11.2.4
    ∷ row 0x6a 2 0 3 3 255  -- t3324 value, 9.11.2.5
    ∷ row 0x67 2 0 3 257 255  -- ue radio capability id, 9.11.3.68
    ∷ row 0xe0 0 0 1 1 65535  -- ue radio capability id deletion indication, 9.11.3.69
    ∷ row 0x39 2 0 4 146 255  -- pending nssai, 9.11.3.37
    ∷ row 0x74 3 0 34 65538 255  -- ciphering key data, 9.11.3.18C
    ∷ row 0x75 3 0 3 65538 255  -- cag information list, 9.11.3.18A
    ∷ row 0x1b 2 0 3 3 255  -- truncated 5g-s-tmsi configuration, 9.11.3.70
    ∷ row 0x1c 2 0 3 257 255  -- negotiated wus assistance information, 9.11.3.71
    ∷ row 0x29 2 0 3 3 255  -- negotiated nb-n1 mode drx parameters, 9.11.3.73
    ∷ row 0x68 2 0 4 74 255  -- extended rejected nssai, 9.11.3.75
    ∷ [])

-- registration accept, mandatory rows
unfoldable pub mandatory2 : List ℕ
mandatory2 =
    concat
    (plain 3 0 2 255  -- 5gs registration result, 9.11.3.6
    ∷ [])

-- registration reject, optional rows
unfoldable pub optional3 : List ℕ
optional3 =
    concat
    (row 0x5f 2 0 3 3 255  -- t3346 value, 9.11.2.4
    ∷ row 0x16 2 0 3 3 255  -- t3502 value, 9.11.2.4
    ∷ row 0x78 3 0 7 1503 255  -- eap message, 9.11.2.2
    ∷ row 0x69 2 0 4 42 255  -- rejected nssai, 9.11.3.46
    ∷ row 0x75 3 0 3 65538 255  -- cag information list, 9.11.3.18A
    ∷ row 0x68 2 0 4 74 255  -- extended rejected nssai, 9.11.3.75
    ∷ [])

-- registration reject, mandatory rows
unfoldable pub mandatory3 : List ℕ
mandatory3 =
    concat
    (plain 2 1 1 255  -- 5gmm cause, 9.11.3.2
    ∷ [])

-- service request, optional rows
unfoldable pub optional4 : List ℕ
optional4 =
    concat
    (row 0x40 2 0 4 34 255  -- uplink data status, 9.11.3.57
    ∷ row 0x50 2 0 4 34 255  -- pdu session status, 9.11.3.44
    ∷ row 0x25 2 0 4 34 255  -- allowed pdu session status, 9.11.3.13
    ∷ row 0x71 3 0 4 65538 255  -- nas message container, 9.11.3.33
    ∷ [])

-- service request, mandatory rows
unfoldable pub mandatory4 : List ℕ
mandatory4 =
    concat
    (plain 0 0 0 65535  -- ngksi, 9.11.3.32
    ∷ plain 1 0 0 4095  -- service type, 9.11.3.50
    ∷ plain 4 0 9 255  -- 5g-s-tmsi, 9.11.3.4
    ∷ [])

-- PDU session establishment request, optional rows
unfoldable pub optional5 : List ℕ
optional5 =
    concat
    (row 0x90 0 0 1 1 32639  -- pdu session type, 9.11.4.11
    ∷ row 0xa0 0 0 1 1 32382  -- ssc mode, 9.11.4.16
    ∷ row 0x28 2 0 3 15 255  -- 5gsm capability, 9.11.4.1
    ∷ row 0x55 1 2 3 3 255  -- maximum number of supported packet filters, 9.11.4.9
    ∷ row 0xb0 0 0 1 1 65535  -- always-on pdu session requested, 9.11.4.4
    ∷ row 0x39 2 0 3 255 255  -- sm pdu dn request container, 9.11.4.15
    ∷ row 0x7b 3 0 4 65538 255  -- extended protocol configuration options, 9.11.4.6
    ∷ row 0x66 2 0 5 257 255  -- ip header compression configuration, 9.11.4.24
    ∷ row 0x6e 2 0 8 8 255  -- ds-tt ethernet port mac address, 9.11.4.25
    ∷ row 0x6f 2 0 10 10 255  -- ue-ds-tt residence time, 9.11.4.26
    ∷ row 0x74 3 0 8 65538 255  -- port management information container, 9.11.4.27
    ∷ row 0x1f 2 0 3 3 255  -- ethernet header compression configuration, 9.11.4.28
    ∷ row 0x29 2 0 11 11 255  -- suggested interface identifier, 9.11.4.10
    ∷ [])

-- PDU session establishment request, mandatory rows
unfoldable pub mandatory5 : List ℕ
mandatory5 =
    concat
    (plain 2 2 2 255  -- integrity protection maximum data rate, 9.11.4.7
    ∷ [])

-- PDU session establishment accept, optional rows
unfoldable pub optional6 : List ℕ
optional6 =
    concat
    (row 0x59 1 1 2 2 255  -- 5gsm cause, 9.11.4.2
    ∷ row 0x29 2 0 7 31 255  -- pdu address, 9.11.4.10
    ∷ row 0x56 1 1 2 2 255  -- rq timer value, 9.11.2.3
    ∷ row 0x22 2 0 3 10 255  -- s-nssai, 9.11.2.8
    ∷ row 0x80 0 0 1 1 65535  -- always-on pdu session indication, 9.11.4.3
    ∷ row 0x75 3 0 7 65538 255  -- mapped eps bearer contexts, 9.11.4.8
    ∷ row 0x78 3 0 7 1503 255  -- eap message, 9.11.2.2
    ∷ row 0x79 3 0 6 65538 255  -- authorized qos flow descriptions, 9.11.4.12
    ∷ row 0x7b 3 0 4 65538 255  -- extended protocol configuration options, 9.11.4.6
    ∷ row 0x25 2 0 3 102 255  -- dnn, 9.11.2.1B
    ∷ row 0x17 2 0 3 15 255  -- 5gsm network feature support, 9.11.4.18
    ∷ row 0x18 2 0 4 4 255  -- serving plmn rate control, 9.11.4.20
    ∷ row 0x77 3 0 3 65538 255  -- atsss container, 9.11.4.22
    ∷ row 0xc0 0 0 1 1 43690  -- control plane only indication, 9.11.4.23
    ∷ row 0x66 2 0 5 257 255  -- ip header compression configuration, 9.11.4.24
    ∷ row 0x1f 2 0 3 3 255  -- ethernet header compression configuration, 9.11.4.28
    ∷ [])

-- PDU session establishment accept, mandatory rows
unfoldable pub mandatory6 : List ℕ
mandatory6 =
    concat
    (plain 0 0 0 32639  -- selected pdu session type, 9.11.4.11
    ∷ plain 1 0 0 32382  -- selected ssc mode, 9.11.4.16
    ∷ plain 4 0 6 255  -- authorized qos rules, 9.11.4.13
    ∷ plain 3 0 7 255  -- session ambr, 9.11.4.14
    ∷ [])

-- the optional rows by table number: 0 is P, 1 to 6 the six real tables
unfoldable pub table_of : ℕ → Option (List ℕ)
table_of zero = some table_p
table_of (suc zero) = some optional1
table_of (suc (suc zero)) = some optional2
table_of (suc (suc (suc zero))) = some optional3
table_of (suc (suc (suc (suc zero)))) = some optional4
table_of (suc (suc (suc (suc (suc zero))))) = some optional5
table_of (suc (suc (suc (suc (suc (suc zero)))))) = some optional6
table_of (suc (suc (suc (suc (suc (suc (suc n))))))) = none

-- the mandatory rows by the same numbers: P has none
unfoldable pub mandatory_table_of : ℕ → Option (List ℕ)
mandatory_table_of zero = some []
mandatory_table_of (suc zero) = some mandatory1
mandatory_table_of (suc (suc zero)) = some mandatory2
mandatory_table_of (suc (suc (suc zero))) = some mandatory3
mandatory_table_of (suc (suc (suc (suc zero)))) = some mandatory4
mandatory_table_of (suc (suc (suc (suc (suc zero))))) = some mandatory5
mandatory_table_of (suc (suc (suc (suc (suc (suc zero)))))) = some mandatory6
mandatory_table_of (suc (suc (suc (suc (suc (suc (suc n))))))) = none

-- the start number of the long form for all of them (TS 24.007, 11.2.4: leading bits 0111 for the 5GS families)
abbrev pub start_of : ℕ
start_of = 0x70
