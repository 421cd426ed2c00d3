use Rattle.std.proofs.Common.{◌≡◌, ◌++◌, map, drop}
use Rattle.topology.specs.Networks.{net_device_of, numbers}
use Rattle.message_links.specs.MailEntries.{mail_entries}
use Rattle.mail_drive.specs.Drives.{firings}
use Rattle.mail_drive.proofs.driving.fire_all.Given as goal

abbrev pub invariant-loop-device : goal.invariant-loop-device
invariant-loop-device l = mail_entries l.log.items ++ firings (numbers (map net_device_of (drop l.device-index l.device-items))) ≡ mail_entries l.fn.log.items ++ firings (numbers l.net.devices)
